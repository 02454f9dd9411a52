-- One request after another.
use Rattle.std.proofs.Common.{ℕ, ◌≡◌, ◌+◌, List, [], ◌∷◌, ◌++◌, Option, Some, None, refl, sym, ◌∙◌, ap, subst, arith, append_assoc, length-append}
use Rattle.std.specs.Prelude.{option_map}
use Rattle.std.specs.List.{AllByRecursion}
use Rattle.std.proofs.lemmas.List.{append-nil}
use Rattle.span_base.specs.Taken.{Appends}
use Rattle.span_base.proofs.Appending.{Appends-append, Appends-nothing}
use Rattle.wire_msg.specs.declared.message.Message.{Message}
use Rattle.replica_core.specs.Rule.{State, step}
use Rattle.replica_journal.specs.Records.{state_after, body_of}
use Rattle.span_service.specs.Inputs.{ahead}
use Rattle.span_service.specs.Requests.{IsRequest}
use Rattle.span_service.specs.Service.{request_bytes, service_bytes, answer_bytes}
use Rattle.span_service.specs.Serving.{Moment, Served}

all_more : (keys : ℕ) (requests : List Message) (request : Message) → AllByRecursion (IsRequest keys) requests → IsRequest keys request → AllByRecursion (IsRequest keys) (requests ++ request ∷ [])
all_more keys [] request all is = (is, tt)
all_more keys (first ∷ requests) request all is = (all.0, all_more keys requests request all.1 is)

state_more : (state : State) (requests : List Message) (request : Message) → state_after state (requests ++ request ∷ []) ≡ (step (state_after state requests) request).state
state_more state [] request = refl
state_more state (first ∷ requests) request = state_more (step state first).state requests request

read_more : (requests : List Message) (request : Message) (rest : List ℕ) → request_bytes (requests ++ request ∷ []) ++ rest ≡ request_bytes requests ++ (body_of request ++ rest)
read_more [] request rest = ap (λ (l : List ℕ). l ++ rest) (append-nil (body_of request))
read_more (first ∷ requests) request rest =
    append_assoc (body_of first) (request_bytes (requests ++ request ∷ [])) rest
    ∙ ap (λ (l : List ℕ). body_of first ++ l) (read_more requests request rest)
    ∙ sym (append_assoc (body_of first) (request_bytes requests) (body_of request ++ rest))

answer_more : (state : State) (requests : List Message) (request : Message)
    → service_bytes state (requests ++ request ∷ []) ≡ service_bytes state requests ++ answer_bytes (step (state_after state requests) request).out.posts
answer_more state [] request = append-nil (answer_bytes (step state request).out.posts)
answer_more state (first ∷ requests) request =
    ap (λ (l : List ℕ). answer_bytes (step state first).out.posts ++ l) (answer_more (step state first).state requests request)
    ∙ sym (append_assoc (answer_bytes (step state first).out.posts) (service_bytes (step state first).state requests) (answer_bytes (step (state_after (step state first).state requests) request).out.posts))

same_told : (told : Option (List ℕ)) → told ≡ option_map (λ rest. [] ++ rest) told
same_told None = refl
same_told (Some bytes) = refl

told_more : (requests : List Message) (request : Message) (left : Option (List ℕ))
    → option_map (λ rest. request_bytes requests ++ rest) (option_map (λ rest. body_of request ++ rest) left) ≡ option_map (λ rest. request_bytes (requests ++ request ∷ []) ++ rest) left
told_more requests request None = refl
told_more requests request (Some rest) = ap (λ (l : List ℕ). Some l) (sym (read_more requests request rest))

-- nothing was read yet
pub served_none : (keys : ℕ) (state : State) (coming taken : Option (List ℕ))
    → Served keys (record { state = state; coming = coming; taken = taken }) (record { state = state; coming = ahead [] coming; taken = taken }) 0
served_none keys state coming taken = record {
  requests = [];
  number = refl;
  sound = tt;
  state = refl;
  read = same_told coming ∙ same_told (ahead [] coming);
  answered = Appends-nothing taken;
}

-- the bytes that weren't used, and those taken, told otherwise
pub served_as : (keys count : ℕ) (start : Moment) (state : State) (coming coming' taken taken' : Option (List ℕ)) → coming' ≡ coming → taken' ≡ taken
    → Served keys start (record { state = state; coming = coming; taken = taken }) count → Served keys start (record { state = state; coming = coming'; taken = taken' }) count
served_as keys count start state coming coming' taken taken' read written served =
    subst (λ (c : Option (List ℕ)). Served keys start (record { state = state; coming = c; taken = taken' }) count) (sym read)
    (subst (λ (t : Option (List ℕ)). Served keys start (record { state = state; coming = coming; taken = t }) count) (sym written) served)

-- one more request is answered
pub served_more : (keys count : ℕ) (start : Moment) (state state' : State) (coming coming' taken taken' : Option (List ℕ)) (request : Message)
    → Served keys start (record { state = state; coming = coming; taken = taken }) count → IsRequest keys request → coming ≡ option_map (λ rest. body_of request ++ rest) coming'
    → state' ≡ (step state request).state → Appends taken taken' (answer_bytes (step state request).out.posts)
    → Served keys start (record { state = state'; coming = coming'; taken = taken' }) (count + 1)
served_more keys count start state state' coming coming' taken taken' request served is read after written = record {
  requests = served.requests ++ request ∷ [];
  number = omega (arith, served.number, length-append served.requests (request ∷ []));
  sound = all_more keys served.requests request served.sound is;
  state = after ∙ ap (λ (s : State). (step s request).state) served.state ∙ sym (state_more start.state served.requests request);
  read = served.read ∙ ap (option_map (λ rest. request_bytes served.requests ++ rest)) read ∙ told_more served.requests request coming';
  answered = subst (Appends start.taken taken') (sym (answer_more start.state served.requests request))
      (Appends-append start.taken taken taken' (service_bytes start.state served.requests) (answer_bytes (step (state_after start.state served.requests) request).out.posts) served.answered
      (subst (λ (s : State). Appends taken taken' (answer_bytes (step s request).out.posts)) served.state written));
}
