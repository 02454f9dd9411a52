-- What the next bytes ask.
use Rattle.std.specs.Prelude.{ℕ, ◌≡◌, ◌<◌, ⊤, Bool, true, false, List, [], ◌++◌, length, Option, Result, Ok, Err, IfSome, option_map}
use Rattle.wire_msg.specs.declared.message.Message.{Message}
use Rattle.replica_journal.specs.declared.disk.Failed.{Failed}
use Rattle.replica_journal.specs.Records.{body_of}
use Rattle.span_service.specs.declared.asking.NoRequest.{NoRequest}
use Rattle.span_service.specs.declared.asking.NoRequest.TheVariants as none
use Rattle.span_service.specs.Inputs.{ahead}
use Rattle.span_service.specs.Requests.{IsRequest, IsBad, IsTorn}

-- there is one more byte, or the input has ended
pub record IsMore (coming coming' : Option (List ℕ)) (old new : List ℕ) (some : Bool) : Type 0 where
  pub same : ahead new coming' ≡ ahead old coming
  pub more : some ≡ true → 0 < length new
  pub none : some ≡ false → ahead old coming ≡ option_map (λ rest. []) coming

abbrev pub HasMore : Option (List ℕ) → Option (List ℕ) → List ℕ → List ℕ → Result Bool Failed → Type 0
HasMore coming coming' old new (Ok some) = IsMore coming coming' old new some
HasMore coming coming' old new (Err failed) = ⊤

-- the bytes that weren't used begin with the request, and it is used; or they show why there is none
abbrev pub Asks : ℕ → Option (List ℕ) → Option (List ℕ) → Result Message NoRequest → Type 0
Asks keys before after (Ok request) = IsRequest keys request × (before ≡ option_map (λ rest. body_of request ++ rest) after)
Asks keys before after (Err (none.Bad at)) = IfSome before (λ bytes. IsBad keys bytes at)
Asks keys before after (Err none.Torn) = IfSome before IsTorn
Asks keys before after (Err none.Failed) = ⊤
Asks keys before after (Err (none.NoMemory error)) = ⊤
