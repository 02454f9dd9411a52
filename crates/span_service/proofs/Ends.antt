-- How a service ends, by how its next request does.
use Rattle.std.proofs.Common.{ℕ, ◌≡◌, ◌<◌, List, [], ◌++◌, length, Option, Some, None, Ok, Err, IfSome, refl, sym, subst, arith, inl, inr, length-append}
use Rattle.std.specs.Prelude.{option_map, ⊤, Bool, Result, IsErrAnd}
use Rattle.wire_msg.specs.declared.message.Message.{Message}
use Rattle.replica_core.specs.Rule.{State}
use Rattle.replica_journal.specs.Records.{body_of}
use Rattle.span_service.specs.declared.serve_fault.ServeFault.{ServeFault}
use Rattle.span_service.specs.declared.serve_fault.ServeFault.TheVariants.{Bad, Torn, Limit, ReadFault, WriteFault, Taker, NoMemory}
use Rattle.std.specs.declared.alloc.AllocError.{AllocError}
use Rattle.span_service.specs.Inputs.{ahead}
use Rattle.span_service.proofs.Rounds.{served_none}
use Rattle.span_service.specs.Requests.{IsRequest, IsBad, IsTorn}
use Rattle.span_service.specs.Serving.{Moment, Served, IsLeft, IsPartly, IsFrontOut, Ends, GoesOn, AsksNext, Replies}

any : (told : Option (List ℕ)) → IfSome told (λ (bytes : List ℕ). ⊤)
any None = tt
any (Some bytes) = tt

none_left : (told : Option (List ℕ)) → told ≡ option_map (λ (rest : List ℕ). []) told → IfSome told (λ (bytes : List ℕ). bytes ≡ [])
none_left told ended = subst (λ (o : Option (List ℕ)). IfSome o (λ (bytes : List ℕ). bytes ≡ [])) (sym ended) (empty told) where
  empty : (told : Option (List ℕ)) → IfSome (option_map (λ (rest : List ℕ). []) told) (λ (bytes : List ℕ). bytes ≡ [])
  empty None = tt
  empty (Some bytes) = refl

some_ahead : (read : List ℕ) (coming : Option (List ℕ)) → 0 < length read → IfSome (ahead read coming) (λ (bytes : List ℕ). 0 < length bytes)
some_ahead read None some = tt
some_ahead read (Some more) some = omega (arith, some, length-append read more)

stands_there : (request : Message) (told rest : Option (List ℕ)) → told ≡ option_map (λ (rest : List ℕ). body_of request ++ rest) rest → IfSome told (λ (bytes : List ℕ). (rest : List ℕ) × (bytes ≡ body_of request ++ rest))
stands_there request told rest is = subst (λ (o : Option (List ℕ)). IfSome o (λ (bytes : List ℕ). (rest : List ℕ) × (bytes ≡ body_of request ++ rest))) (sym is) (there rest) where
  there : (rest : Option (List ℕ)) → IfSome (option_map (λ (rest : List ℕ). body_of request ++ rest) rest) (λ (bytes : List ℕ). (rest : List ℕ) × (bytes ≡ body_of request ++ rest))
  there None = tt
  there (Some bytes) = (bytes, refl)

module _ (keys size count : ℕ) (start : Moment) (state : State) (coming taken : Option (List ℕ)) (served : Served keys start (record { state = state; coming = coming; taken = taken }) count) where
  left_as : (P : List ℕ → Type 0) (taken' : Option (List ℕ)) → taken' ≡ taken → IfSome coming P → IsLeft keys start state taken' count P
  left_as P taken' same holds = record {
    left = coming;
    served = subst (λ (t : Option (List ℕ)). Served keys start (record { state = state; coming = coming; taken = t }) count) (sym same) served;
    holds = holds;
  }

  pub ends_unread : (taken' : Option (List ℕ)) (fault : ServeFault) → taken' ≡ taken → fault ≡ ReadFault count → Ends keys size start state taken' (Err fault)
  ends_unread taken' fault same is = subst (λ (f : ServeFault). Ends keys size start state taken' (Err f)) (sym is) (left_as (λ (bytes : List ℕ). ⊤) taken' same (any coming))

  pub ends_done : (taken' : Option (List ℕ)) → taken' ≡ taken → coming ≡ option_map (λ (rest : List ℕ). []) coming → Ends keys size start state taken' (Ok count)
  ends_done taken' same ended = left_as (λ (bytes : List ℕ). bytes ≡ []) taken' same (none_left coming ended)

  pub ends_full : (read : List ℕ) (more taken' : Option (List ℕ)) → taken' ≡ taken → count ≡ 1000000 → ahead read more ≡ coming → 0 < length read → Ends keys size start state taken' (Err (Limit 1000001))
  ends_full read more taken' same full is some = (
    refl,
    subst (λ (n : ℕ). IsLeft keys start state taken' n (λ (bytes : List ℕ). 0 < length bytes)) full
        (left_as (λ (bytes : List ℕ). 0 < length bytes) taken' same (subst (λ (o : Option (List ℕ)). IfSome o (λ (bytes : List ℕ). 0 < length bytes)) is (some_ahead read more some))),
  )

  pub ends_asked : (before after taken' : Option (List ℕ)) (fault : ServeFault) → taken' ≡ taken → before ≡ coming → AsksNext keys before after count (Err fault) → Ends keys size start state taken' (Err fault)
  ends_asked before after taken' (Bad frame at) same is asks = (count, asks.0, left_as (λ (bytes : List ℕ). IsBad keys bytes at) taken' same (subst (λ (o : Option (List ℕ)). IfSome o (λ (bytes : List ℕ). IsBad keys bytes at)) is asks.1))
  ends_asked before after taken' (Torn frame) same is asks = (count, asks.0, left_as IsTorn taken' same (subst (λ (o : Option (List ℕ)). IfSome o IsTorn) is asks.1))
  ends_asked before after taken' (Limit number) same is asks = absurd asks
  ends_asked before after taken' (ReadFault answered) same is asks = subst (λ (n : ℕ). IsLeft keys start state taken' n (λ (bytes : List ℕ). ⊤)) (sym asks) (left_as (λ (bytes : List ℕ). ⊤) taken' same (any coming))
  ends_asked before after taken' (WriteFault answered) same is asks = absurd asks
  ends_asked before after taken' (Taker fault) same is asks = absurd asks
  ends_asked before after taken' (NoMemory error) same is asks = (count, inl (left_as (λ (bytes : List ℕ). ⊤) taken' same (any coming)))

  module _ (request : Message) (sound : IsRequest keys request) (rest : Option (List ℕ)) (is : coming ≡ option_map (λ (rest : List ℕ). body_of request ++ rest) rest) where
    partly : (state' : State) (taken' : Option (List ℕ)) → IsFrontOut state state' taken taken' request → IsPartly keys start state' taken' count
    partly state' taken' out = record {
      before = record { state = state; coming = coming; taken = taken };
      served = served;
      request = request;
      sound = sound;
      stands = stands_there request coming rest is;
      state_is = out.state;
      size = out.size;
      front = out.front;
    }

    left_at : (P : List ℕ → Type 0) (state' : State) (taken' : Option (List ℕ)) → state' ≡ state → taken' ≡ taken → IfSome coming P → IsLeft keys start state' taken' count P
    left_at P state' taken' still same holds = subst (λ (s : State). IsLeft keys start s taken' count P) (sym still) (left_as P taken' same holds)

    pub ends_refused : (state' : State) (taken' : Option (List ℕ)) (fault : ServeFault) → Replies size state state' taken taken' request count (Err fault) → Ends keys size start state' taken' (Err fault)
    ends_refused state' taken' (Bad frame at) replies = absurd replies
    ends_refused state' taken' (Torn frame) replies = absurd replies
    ends_refused state' taken' (Limit number) replies = absurd replies
    ends_refused state' taken' (ReadFault answered) replies = absurd replies
    ends_refused state' taken' (WriteFault answered) replies = subst (λ (n : ℕ). IsPartly keys start state' taken' n) (sym replies.0) (partly state' taken' replies.1)
    ends_refused state' taken' (Taker fault) replies = record {
      count = count;
      request = request;
      sound = sound;
      refused = replies.0;
      left = left_at (λ (bytes : List ℕ). (rest : List ℕ) × (bytes ≡ body_of request ++ rest)) state' taken' replies.1.state replies.1.taken_is (stands_there request coming rest is);
    }
    ends_refused state' taken' (NoMemory error) (inl nothing) = (count, inl (left_at (λ (bytes : List ℕ). ⊤) state' taken' nothing.state nothing.taken_is (any coming)))
    ends_refused state' taken' (NoMemory error) (inr out) = (count, inr (partly state' taken' out))

-- a fault that is passed on
pub goes_by : (keys size count : ℕ) (start now : Moment) (result : Result Bool ServeFault) (told : ServeFault) → IsErrAnd result (λ fault. fault ≡ told)
    → Ends keys size start now.state now.taken (Err told) → GoesOn keys size start now count result
goes_by keys size count start now (Ok more) told is ends = absurd is
goes_by keys size count start now (Err fault) told is ends = subst (λ (f : ServeFault). Ends keys size start now.state now.taken (Err f)) (sym is) ends

pub ends_by : (keys size : ℕ) (start : Moment) (state : State) (taken : Option (List ℕ)) (result : Result ℕ ServeFault) (told : ServeFault) → IsErrAnd result (λ fault. fault ≡ told)
    → Ends keys size start state taken (Err told) → Ends keys size start state taken result
ends_by keys size start state taken (Ok count) told is ends = absurd is
ends_by keys size start state taken (Err fault) told is ends = subst (λ (f : ServeFault). Ends keys size start state taken (Err f)) (sym is) ends

pub ends_unbegun : (keys size : ℕ) (state : State) (coming taken : Option (List ℕ)) (fault : ServeFault) (error : AllocError) → fault ≡ NoMemory error
    → Ends keys size (record { state = state; coming = coming; taken = taken }) state taken (Err fault)
ends_unbegun keys size state coming taken fault error is =
    subst (λ (f : ServeFault). Ends keys size (record { state = state; coming = coming; taken = taken }) state taken (Err f)) (sym is)
    (0, inl (left_as keys size 0 (record { state = state; coming = coming; taken = taken }) state (ahead [] coming) taken (served_none keys state coming taken) (λ (bytes : List ℕ). ⊤) taken refl (any (ahead [] coming))))
