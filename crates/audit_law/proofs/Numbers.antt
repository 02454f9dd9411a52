-- The last number of a proxy's calls in the log is how many calls it began.
use Rattle.std.proofs.Common.{◌≡◌, ℕ, ◌<◌, Bool, true, false, List, [], ◌∷◌, ◌++◌, refl, sym, ap, ◌∙◌, subst, ◌==◌, if◌then◌else◌, length, Option, None, fold, Some, eqb-true}
use Rattle.std.proofs.lemmas.Bool.{eqb-false}
use Rattle.std.proofs.lemmas.List.Sums.{fold-append}
use Rattle.register_law.proofs.Words.{Call, Stamp, Reply, Mark, last_seq, draws_ticket, Proxy, Store, proxy_at, Happening, end_marks, ticket_marks, with_proxy, Happened, call_took, gave_up, next_call, proxy_learned, proxy_stopped, refused_at_once, started}
use Rattle.run_marks.specs.declared.mark.Mark.TheVariants as k
use Rattle.register_order.specs.Form.{seq_after}
use Rattle.register_law.proofs.Basics.{is_made}
use Rattle.register_law.proofs.TagsCalls.{proxy_cases, proxy_is}

abbrev pub NumbersAre : Store → List Mark → Type 0
NumbersAre s marks = (p : ℕ) → last_seq p marks ≡ (proxy_at s p).begun

-- a proxy that begins none
begun_same : (s : Store) (at q : ℕ) (new : Proxy) → new.begun ≡ (proxy_at s at).begun → (proxy_at (with_proxy s at new) q).begun ≡ (proxy_at s q).begun
begun_same s at q new is = proxy_cases s at q new (λ (x : Proxy). x.begun ≡ (proxy_at s q).begun) refl (λ same. is ∙ ap (λ (n : ℕ). (proxy_at s n).begun) (sym same))

-- and one that begins its next call
begun_next : (s : Store) (p q : ℕ) (new : Proxy) (last : ℕ) → p < length s.proxies → last ≡ (proxy_at s q).begun → (if p == q then new.begun else last) ≡ (proxy_at (with_proxy s p new) q).begun
begun_next s p q new last lt was = by (p == q) refl
  where
    by : (b : Bool) → (p == q) ≡ b → (if b then new.begun else last) ≡ (proxy_at (with_proxy s p new) q).begun
    by true e = subst (λ (n : ℕ). new.begun ≡ (proxy_at (with_proxy s p new) n).begun) (eqb-true p q e) (ap (λ (x : Proxy). x.begun) (sym (proxy_is s p new lt)))
    by false e = was ∙ proxy_cases s p q new (λ (x : Proxy). (proxy_at s q).begun ≡ x.begun) refl (λ same. absurd (eqb-false p q e (sym same)))

ticket_passes : (q last : ℕ) (call : Call) (stamp : Stamp) (b : Bool) → fold (seq_after q) last (if b then k.Ticket call stamp ∷ [] else []) ≡ last
ticket_passes q last call stamp true = refl
ticket_passes q last call stamp false = refl

call_passes : (q last : ℕ) (call : Call) (t : Option Stamp) (o : Option Reply) → fold (seq_after q) last (ticket_marks call t ++ end_marks call o) ≡ last
call_passes q last call None None = refl
call_passes q last call (Some stamp) None = refl
call_passes q last call t o = refl

-- one event's lines count what it begins
counted_by : ℕ → ℕ → Happening → Type 0
counted_by q last x = fold (seq_after q) last x.marks ≡ (proxy_at x.store q).begun

event_counts : (s : Store) (h : Happening) (q last : ℕ) → Happened s h → last ≡ (proxy_at s q).begun → counted_by q last h
unfolding counted_by
event_counts s h q last (proxy_stopped p is) was = subst (counted_by q last) (sym is) (was ∙ sym (begun_same s p q (record (proxy_at s p) { stopped = true }) refl))
event_counts s h q last (refused_at_once p key work reply lt dead is) was = subst (counted_by q last) (sym is) (begun_next s p q _ last lt was)
event_counts s h q last (started p key work st) was = subst (counted_by q last) (sym st.is) (ticket_passes q _ (next_call s p) _ (draws_ticket work) ∙ begun_next s p q _ last st.exists was)
event_counts s h q last (proxy_learned p message sent is) was = subst (counted_by q last) (sym is) (was ∙ sym (begun_same s p q _ refl))
event_counts s h q last (call_took p message call took) was = subst (counted_by q last) (sym took.is) (call_passes q last _ _ _ ∙ was ∙ sym (begun_same s p q _ refl))
event_counts s h q last (gave_up p handle call live is) was = subst (counted_by q last) (sym is) (was ∙ sym (begun_same s p q _ refl))
event_counts s h q last o was = subst (counted_by q last) (sym (is_made s h o)) was

pub numbers_after : (s : Store) (h : Happening) (marks : List Mark) → Happened s h → NumbersAre s marks → NumbersAre h.store (marks ++ h.marks)
unfolding counted_by
numbers_after s h marks is was q = fold-append (seq_after q) 0 marks h.marks ∙ event_counts s h q (last_seq q marks) is (was q)
