-- Every event keeps all that the legs of the key rest on.
use Rattle.std.proofs.Common.{◌≡◌, ◌⊎◌, inl, inr, ℕ, ◌<◌, ◌≤◌, sym, subst, Option, Some, None, Contains}
use Rattle.register_law.proofs.CallsBacked.{begun_before}
use Rattle.register_law.proofs.Words.{Call, KeyId, Stamp, Message, Tag, Store, Happening, Happened, Begun, Ghost, noted_of, Inv, FoundFrozen, FoundSettled, IsTicketIn, Grows, IsSettled, LegsAreBacked, NotedLeg as Leg, tag_of, IsLegRequest}
use Rattle.register_law.proofs.MovesKept.{posted}
use Rattle.register_law.proofs.MovesStable.{settled_stays, found_settled_stays, found_frozen_stays}
use Rattle.register_law.proofs.Growth.{grows_by}
use Rattle.register_law.proofs.OpeningsPosts.{posted_opened, IsOfOpened}
use Rattle.register_law.proofs.LegsFound.{found_settled, found_over, floor_now}
use Rattle.register_law.proofs.RequestsLegs.{leg_request_after, leg_numbered_after, leg_bound_after, leg_once_after, IsNew, legs_are, new_leg}
use Rattle.register_law.proofs.AnswersTold.{legs_before}
use Rattle.register_law.proofs.AnswersFence.{leg_past_after}

-- what is claimed of one leg
pub record OneLeg (key : KeyId) (z : Store) (h : Ghost) (leg : Leg) : Type 0 where
  pub opened : Contains h.opened leg.epoch × IsTicketIn leg.epoch leg.ticket
  pub floor : (b : Begun) → h.begun leg.call ≡ Some b → b.epoch ≤ leg.epoch → FoundSettled key z leg b.floor
  pub blocked : (b : Begun) → h.begun leg.call ≡ Some b → leg.epoch < b.epoch → FoundFrozen key z leg

old_one : (key : KeyId) (s : Store) (g : Ghost) (h : Happening) → Inv key s g → Happened s h → (leg : Leg) → Contains g.legs leg → OneLeg key h.store (noted_of key s h g) leg
old_one key s g h inv is leg there =
    let grows : Grows key s g h.store (noted_of key s h g) = grows_by key s g h is inv in
    let opened = inv.legs.opened leg there in
    let some = (inv.legs.numbered leg there).0 in
    let out = inv.openings.published leg.epoch opened.0 in
    record {
      opened = (grows.opened leg.epoch opened.0, opened.1);
      floor = λ b now le. found_settled_stays key s g h.store (noted_of key s h g) leg b.floor grows out (inv.legs.floor leg b there (begun_before (g.begun leg.call) ((noted_of key s h g).begun leg.call) b some (grows.begun leg.call) now) le);
      blocked = λ b now lt. found_frozen_stays key s g h.store (noted_of key s h g) leg grows out (inv.legs.blocked leg b there (begun_before (g.begun leg.call) ((noted_of key s h g).begun leg.call) b some (grows.begun leg.call) now) lt);
    }

new_one : (key : KeyId) (s : Store) (g : Ghost) (h : Happening) → Inv key s g → Happened s h → (tag : Tag) (epoch : ℕ) (ticket : Option Stamp) → IsTicketIn epoch ticket → Contains g.opened epoch → OneLeg key h.store (noted_of key s h g) (new_leg key s tag epoch ticket)
new_one key s g h inv is tag epoch ticket of opened =
    let grows : Grows key s g h.store (noted_of key s h g) = grows_by key s g h is inv in
    let out = inv.openings.published epoch opened in
    record {
      opened = (grows.opened epoch opened, of);
      floor = λ b now le. let f = floor_now key s g h inv tag.call b now in
          found_settled_stays key s g h.store (noted_of key s h g) (new_leg key s tag epoch ticket) b.floor grows out (found_settled key s g inv tag epoch ticket b.epoch b.floor opened f.opened f.settled le);
      blocked = λ b now lt. let f = floor_now key s g h inv tag.call b now in
          found_frozen_stays key s g h.store (noted_of key s h g) (new_leg key s tag epoch ticket) grows out (found_over key s g inv tag epoch ticket b.epoch opened f.opened lt);
    }

-- the epoch of a leg has been current, where that of its first request has
request_epoch : (key : KeyId) (g : Ghost) (leg : Leg) (ticket : Option Stamp) (message : Message) → IsLegRequest key leg ticket message → IsTicketIn leg.epoch ticket → IsOfOpened g message → Contains g.opened leg.epoch
request_epoch key g leg None message is of opened = subst (IsOfOpened g) is opened
request_epoch key g leg (Some ticket) message is of opened = subst (Contains g.opened) of (subst (IsOfOpened g) is opened)

one_leg : (key : KeyId) (s : Store) (g : Ghost) (h : Happening) → Inv key s g → Happened s h → (leg : Leg) → Contains g.legs leg ⊎ IsNew key s h leg → OneLeg key h.store (noted_of key s h g) leg
one_leg key s g h inv is leg (inl there) = old_one key s g h inv is leg there
one_leg key s g h inv is leg (inr new) =
    let first = new.begins in
    let opened = request_epoch key g leg leg.ticket new.post.message first.request first.ticket (posted_opened key s g h inv new.post.to new.post.message (posted s h is new.post new.there) first.at_key) in
    subst (OneLeg key h.store (noted_of key s h g)) (sym first.is) (new_one key s g h inv is (tag_of new.post.message) leg.epoch leg.ticket first.ticket opened)

-- the floors of all calls of the key
pub floors_kept : (key : KeyId) (s : Store) (g : Ghost) (h : Happening) → Inv key s g → Happened s h → (call : Call) (b : Begun) → (noted_of key s h g).begun call ≡ Some b → Contains (noted_of key s h g).opened b.epoch × IsSettled key h.store (noted_of key s h g) b.epoch b.floor
floors_kept key s g h inv is call b now =
    let f = floor_now key s g h inv call b now in
    let grows : Grows key s g h.store (noted_of key s h g) = grows_by key s g h is inv in
    (grows.opened b.epoch f.opened, settled_stays key s g h.store (noted_of key s h g) b.epoch b.floor grows (inv.openings.published b.epoch f.opened) f.settled)

-- ---- every event keeps all that the legs of the key rest on

pub legs_kept : (key : KeyId) (s : Store) (g : Ghost) (h : Happening) → Inv key s g → Happened s h → LegsAreBacked key h.store (noted_of key s h g)
legs_kept key s g h inv is =
    let before = legs_before key s g inv in
    record {
      request = leg_request_after key s g h is before;
      past = leg_past_after key s g h is inv;
      numbered = leg_numbered_after key s g h is before;
      bound = leg_bound_after key s g h is before;
      once = leg_once_after key s g h is before;
      opened = λ leg there. (one leg there).opened;
      floor = λ leg b there. (one leg there).floor b;
      blocked = λ leg b there. (one leg there).blocked b;
    }
  where
    one : (leg : Leg) → Contains (noted_of key s h g).legs leg → OneLeg key h.store (noted_of key s h g) leg
    one leg there = one_leg key s g h inv is leg (legs_are key s g h leg there)
