-- What a link was given and answers, one call after another.
use Rattle.std.proofs.Common.{◌≡◌, ℕ, zero, suc, ◌+◌, ◌<◌, List, [], ◌∷◌, ◌++◌, length, take, slice_get, refl, sym, ap, ◌∙◌, subst, arith}
use Rattle.std.specs.Prelude.{Option, Some, None, option_map}
use Rattle.std.proofs.lemmas.List.{append_assoc, length-take-le, take_all}
use Rattle.std.proofs.lemmas.Option.{slice_get_within}
use Rattle.wire_msg.specs.declared.outputs.Post.{Post}
use Rattle.frame_link.specs.Frames.{Sent, with_frame}
use Rattle.span_node.specs.declared.mail.Mail.{Mail}
use Rattle.span_node.specs.Carried.{carried}
use Rattle.span_node.specs.Index.{IsIndex}
use Rattle.span_node.specs.Traffic.{Traffic, Goes}
use Rattle.span_node.specs.Mail.{IsMail}
use Rattle.span_node.proofs.Carrying.{many}

pub goes_nowhere : (link : Traffic) (frames : List Sent) → Goes link link frames frames
goes_nowhere link frames = record { on = λ from given is. is }

pub goes_on : (old now new : Traffic) (were are come : List Sent) → Goes old now were are → Goes now new are come → Goes old new were come
goes_on old now new were are come first second = record { on = λ from given is. second.on from given (first.on from given is) }

-- one more of a list's front
front_suc : {A : Type 0} (xs : List A) (n : ℕ) (x : A) → slice_get xs n ≡ Some x → take n xs ++ x ∷ [] ≡ take (suc n) xs
front_suc [] n x at = absurd (cc)
front_suc (y ∷ ys) zero x at = let same : y ≡ x = cc in ap (λ z. z ∷ []) (sym same)
front_suc (y ∷ ys) (suc n) x at = ap (λ zs. y ∷ zs) (front_suc ys n x at)

pub front_more : {A : Type 0} (xs : List A) (n : ℕ) (x : A) → slice_get xs n ≡ Some x → take n xs ++ x ∷ [] ≡ take (n + 1) xs
front_more xs n x at =
    let one : suc n ≡ n + 1 = omega arith in
    front_suc xs n x at ∙ ap (λ k. take k xs) one

-- the frames with one more, where they are told
told_more : (all : List Sent) (n to : ℕ) (frame : List ℕ) → slice_get all n ≡ Some (record { to = to; frame = frame })
    → (sent : Option (List Sent)) → option_map (λ b. with_frame b to frame) (option_map (λ b. b ++ take n all) sent) ≡ option_map (λ b. b ++ take (n + 1) all) sent
told_more all n to frame at None = refl
told_more all n to frame at (Some told) =
    ap Some (append_assoc told (take n all) (record { to = to; frame = frame } ∷ []) ∙ ap (λ fs. told ++ fs) (front_more all n (record { to = to; frame = frame }) at))

-- the link was given the next frame
pub goes_one : (old new : Traffic) (all : List Sent) (n to : ℕ) (frame : List ℕ) → slice_get all n ≡ Some (record { to = to; frame = frame })
    → new.sent ≡ option_map (λ b. with_frame b to frame) old.sent → new.answers ≡ old.answers → new.honest ≡ old.honest → new.faithful ≡ old.faithful
    → Goes old new (take n all) (take (n + 1) all)
goes_one old new all n to frame at sent answers honest faithful = record {
  on = λ from given is. record {
    sent = sent ∙ ap (option_map (λ b. with_frame b to frame)) is.sent ∙ told_more all n to frame at from.sent;
    answers = answers ∙ is.answers;
    honest = honest ∙ is.honest;
    faithful = faithful ∙ is.faithful;
  };
}

-- the link was given nothing
pub goes_none : (old new : Traffic) (frames : List Sent) → new.sent ≡ old.sent → new.answers ≡ old.answers → new.honest ≡ old.honest → new.faithful ≡ old.faithful → Goes old new frames frames
goes_none old new frames sent answers honest faithful = record {
  on = λ from given is. record { sent = sent ∙ is.sent; answers = answers ∙ is.answers; honest = honest ∙ is.honest; faithful = faithful ∙ is.faithful };
}

-- the mail with one frame more that was sent
pub mail_more : (old new : Mail) (posts : List Post) (number to : ℕ) (frame bytes : List ℕ) → IsMail old posts → number ≡ old.sent → slice_get (carried posts) number ≡ Some (record { to = to; frame = frame })
    → bytes ≡ frame → new.sent ≡ number + 1 → new.buffer.items ≡ old.buffer.items
    → ((frames : List Sent) → number ≡ length frames → IsIndex old.index frames → IsIndex new.index (frames ++ record { to = to; frame = bytes } ∷ []))
    → IsMail new posts
mail_more old new posts number to frame bytes is next at same one buffer adds =
    let sent : Sent = record { to = to; frame = frame } in
    let within : number < length (carried posts) = slice_get_within (carried posts) number sent at in
    let count : length (carried posts) ≡ length posts = many posts in
    let front : length (take number (carried posts)) ≡ number = length-take-le number (carried posts) (omega (arith, within)) in
    let was : IsIndex old.index (take number (carried posts)) = subst (λ (n : ℕ). IsIndex old.index (take n (carried posts))) (sym next) is.index in
    let grown : IsIndex new.index (take number (carried posts) ++ sent ∷ []) =
    subst (λ (f : List ℕ). IsIndex new.index (take number (carried posts) ++ record { to = to; frame = f } ∷ [])) same (adds (take number (carried posts)) (sym front) was) in
    record {
      few = omega (arith, one, within, count);
      index = subst (λ (n : ℕ). IsIndex new.index (take n (carried posts))) (sym one) (subst (IsIndex new.index) (front_more (carried posts) number sent at) grown);
      buffer = ap length buffer ∙ is.buffer;
    }

-- where all was sent, the index tells all
pub all_told : (mail : Mail) (posts : List Post) → IsMail mail posts → mail.sent ≡ length posts → IsIndex mail.index (carried posts)
all_told mail posts is all =
    subst (IsIndex mail.index) (take_all mail.sent (carried posts) (omega (arith, all, many posts))) is.index
