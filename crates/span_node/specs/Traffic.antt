-- What contracts see of a link.
use Rattle.std.specs.Prelude.{◌≡◌, Bool, true, List, [], ◌∷◌, ◌++◌, Option, Some, option_map}
use Rattle.frame_link.specs.Frames.{Sent, arrived, IsHonest, IsFaithful}

-- what a link tells: the frames that it was given, what it answered, and what arrives
pub record Traffic : Type 0 where
  pub sent : Option (List Sent)
  pub answers : Option (List (Option Sent))
  pub honest : Option Bool
  pub faithful : Option Bool

abbrev pub seen : Option (List Sent) → Option (List (Option Sent)) → Option Bool → Option Bool → Traffic
seen sent answers honest faithful = record { sent = sent; answers = answers; honest = honest; faithful = faithful }

-- where a link tells them, it was given these frames more, and gave these answers more
pub record Carries (from now : Traffic) (frames : List Sent) (given : List (Option Sent)) : Type 0 where
  pub sent : now.sent ≡ option_map (λ before. before ++ frames) from.sent
  pub answers : now.answers ≡ option_map (λ before. before ++ given) from.answers
  pub honest : now.honest ≡ from.honest
  pub faithful : now.faithful ≡ from.faithful

-- a faithful link on which nothing was sent, and from which no frame came
pub record IsFresh (link : Traffic) : Type 0 where
  pub faithful : link.faithful ≡ Some true
  pub sent : link.sent ≡ Some []
  pub before : List (Option Sent)
  pub answers : link.answers ≡ Some before
  pub none : arrived before ≡ []

-- the link gave this answer more
pub record Answered (old new : Traffic) (answer : Option Sent) : Type 0 where
  pub sent : new.sent ≡ old.sent
  pub answers : new.answers ≡ option_map (λ before. before ++ answer ∷ []) old.answers
  pub honest : new.honest ≡ old.honest
  pub faithful : new.faithful ≡ old.faithful
  pub honestly : IsHonest old.honest old.sent answer
  pub faithfully : IsFaithful old.faithful old.sent old.answers answer

-- whatever a link was given and answered since some time: where these were the frames, they are those now
pub record Goes (old new : Traffic) (were are : List Sent) : Type 0 where
  pub on : (from : Traffic) (given : List (Option Sent)) → Carries from old were given → Carries from new are given
