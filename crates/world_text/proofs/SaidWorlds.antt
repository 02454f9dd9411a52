-- A world that entries say is complete, and its names are names and told apart.
use Rattle.std.proofs.Common.{◌≡◌, ◌≢◌, ℕ, ◌+◌, ◌<◌, Bool, true, false, List, [], ◌∷◌, length, map, Option, IsSome, Some, None, Result, Ok, Err, refl, sym, ap, ◌∙◌, subst}
use Rattle.std.specs.Prelude.{if◌then◌else◌}
use Rattle.std.specs.Str.{is_utf8}
use Rattle.toml.specs.Data.{Members}
use Rattle.toml.specs.Parse.{parse_document}
use Rattle.span_base.specs.declared.words.Cause.TheVariants as cause
use Rattle.price_tables.specs.declared.prices.Centre.{Centre}
use Rattle.price_tables.specs.declared.prices.DcPrice.{DcPrice}
use Rattle.price_tables.specs.declared.prices.Fare.{Fare}
use Rattle.price_tables.specs.Tables.{Tabled, count_of, number_of, link_at, AreAllLinked}
use Rattle.workload.specs.declared.rules.SetRule.{SetRule}
use Rattle.workload.specs.declared.rules.AccessSet.{AccessSet}
use Rattle.workload.specs.World.{Lists, IsComplete, IsNamed, world_of}
use Rattle.workload.specs.Load.{set_at}
use Rattle.workload.proofs.Worlds.{world_complete}
use Rattle.world_text.specs.declared.fault.Fault.{Fault}
use Rattle.world_text.specs.declared.fault.Fault.TheVariants.{Bad}
use Rattle.world_text.specs.declared.kinds.Kind.{Kind}
use Rattle.world_text.specs.declared.kinds.Kind.TheVariants as kind
use Rattle.world_text.specs.declared.kinds.Version.{Version}
use Rattle.world_text.specs.declared.draft.Draft.{Draft}
use Rattle.world_text.specs.Records.{Record, records_in}
use Rattle.world_text.specs.Steps.{◌>>=◌}
use Rattle.world_text.specs.Spelled.{name_of, kind_of, version_of, price_of, fare_of, rule_of, counts_of}
use Rattle.world_text.specs.Added.{known, centre_added, link_added, set_added, member_added}
use Rattle.world_text.specs.Judged.{judged, dc_judged, link_judged, set_judged, use_judged, kind_judged, judged_in, with_providers, of_eight, nothing_read}
use Rattle.world_text.specs.ReadWorld.{Entry, all_linked, all_used, world_in, completed, entry_judged, read_from, csv_says}
use Rattle.world_text.specs.Toml.{document_entries, entries_say, document_says, toml_says}
use Rattle.world_text.proofs.Taking.{taken_from, refused_from, world_from, gap_from}
use Rattle.world_text.proofs.Gaps.{unlinked, unused}
use Rattle.world_text.proofs.WithinLimits.{name_within, price_within, fare_within, rule_within, counts_within}
use Rattle.world_text.proofs.InOrder.{AreInOrder, IsInOrder, centre_in_order, link_in_order, set_in_order, member_in_order, centre_below, nothing_in_order}

-- the draft with other tables, or other sets
tables_taken : (d next : Draft) (r : Result Tabled Fault) → ((t : Tabled) → r ≡ Ok t → AreInOrder t d.load) → (r >>= λ t. Ok (record d { tables = t })) ≡ Ok next → IsInOrder next
tables_taken d next (Ok t) order e = let same : record d { tables = t } ≡ next = cc in subst IsInOrder same (order t refl)
tables_taken d next (Err f) order e = absurd (cc e)

sets_taken : (d next : Draft) (r : Result (List AccessSet) Fault) → ((ss : List AccessSet) → r ≡ Ok ss → AreInOrder d.tables ss) → (r >>= λ ss. Ok (record d { load = ss })) ≡ Ok next → IsInOrder next
sets_taken d next (Ok ss) order e = let same : record d { load = ss } ≡ next = cc in subst IsInOrder same (order ss refl)
sets_taken d next (Err f) order e = absurd (cc e)

dc_taken : (d next : Draft) (fields : Record) → IsInOrder d → dc_judged d fields ≡ Ok next → IsInOrder next
unfolding dc_judged
dc_taken d next [] order h = absurd (cc h)
dc_taken d next (a ∷ []) order h = absurd (cc h)
dc_taken d next (a ∷ b ∷ []) order h = absurd (cc h)
dc_taken d next (a ∷ b ∷ c ∷ []) order h = absurd (cc h)
dc_taken d next (a ∷ b ∷ c ∷ e ∷ []) order h = absurd (cc h)
dc_taken d next (a ∷ b ∷ c ∷ e ∷ f ∷ g ∷ fields) order h = absurd (cc h)
dc_taken d next (name ∷ provider ∷ store ∷ get ∷ put ∷ []) order h = by (name_of name) refl (name_of provider) refl (price_of store get put) refl h
  where
    by : (a : Result (List ℕ) Fault) → name_of name ≡ a → (b : Result (List ℕ) Fault) → name_of provider ≡ b → (c : Result DcPrice Fault) → price_of store get put ≡ c
        → (a >>= λ n. b >>= λ p. c >>= λ price. centre_added d.tables (record { name = n; provider = p; price = price }) >>= λ t. Ok (record d { tables = t })) ≡ Ok next → IsInOrder next
    by (Err f) is b is' c is'' e = absurd (cc e)
    by (Ok n) is (Err f) is' c is'' e = absurd (cc e)
    by (Ok n) is (Ok p) is' (Err f) is'' e = absurd (cc e)
    by (Ok n) is (Ok p) is' (Ok price) is'' e =
        let made : Centre = record { name = n; provider = p; price = price } in
        tables_taken d next (centre_added d.tables made)
        (λ t added. centre_in_order d.tables t d.load made order (name_within name n is) (name_within provider p is') (price_within store get put price is'') added) e

link_taken : (d next : Draft) (fields : Record) → IsInOrder d → link_judged d fields ≡ Ok next → IsInOrder next
unfolding link_judged
link_taken d next [] order h = absurd (cc h)
link_taken d next (a ∷ []) order h = absurd (cc h)
link_taken d next (a ∷ b ∷ []) order h = absurd (cc h)
link_taken d next (a ∷ b ∷ c ∷ []) order h = absurd (cc h)
link_taken d next (a ∷ b ∷ c ∷ e ∷ f ∷ fields) order h = absurd (cc h)
link_taken d next (from ∷ to ∷ transfer ∷ latency ∷ []) order h = by (name_of from) (name_of to) (fare_of transfer latency) refl h
  where
    by : (a b : Result (List ℕ) Fault) (c : Result Fare Fault) → fare_of transfer latency ≡ c
        → (a >>= λ x. b >>= λ y. c >>= λ fare. link_added d.tables x y fare >>= λ t. Ok (record d { tables = t })) ≡ Ok next → IsInOrder next
    by (Err f) b c is e = absurd (cc e)
    by (Ok x) (Err f) c is e = absurd (cc e)
    by (Ok x) (Ok y) (Err f) is e = absurd (cc e)
    by (Ok x) (Ok y) (Ok fare) is e =
        tables_taken d next (link_added d.tables x y fare)
        (λ t added. link_in_order d.tables t d.load x y fare order (fare_within transfer latency fare is) added) e

eight_taken : (d next : Draft) (name mode f read write stored object providers : List ℕ) → IsInOrder d
    → (name_of name >>= λ n. rule_of mode f read write stored object providers >>= λ rule. set_added d.load n rule >>= λ ss. Ok (record d { load = ss })) ≡ Ok next → IsInOrder next
eight_taken d next name mode f read write stored object providers order h = by (name_of name) refl (rule_of mode f read write stored object providers) refl h
  where
    by : (a : Result (List ℕ) Fault) → name_of name ≡ a → (b : Result SetRule Fault) → rule_of mode f read write stored object providers ≡ b
        → (a >>= λ n. b >>= λ rule. set_added d.load n rule >>= λ ss. Ok (record d { load = ss })) ≡ Ok next → IsInOrder next
    by (Err x) is b is' e = absurd (cc e)
    by (Ok n) is (Err x) is' e = absurd (cc e)
    by (Ok n) is (Ok rule) is' e =
        sets_taken d next (set_added d.load n rule)
        (λ ss added. set_in_order d.tables d.load ss n rule order (name_within name n is) (rule_within mode f read write stored object providers rule is') added) e

abbrev set_step : Draft → (a b c e f g i j : List ℕ) → Result Draft Fault
set_step d a b c e f g i j = name_of a >>= λ n. rule_of b c e f g i j >>= λ rule. set_added d.load n rule >>= λ ss. Ok (record d { load = ss })

set_taken : (v : Version) (d next : Draft) (fields : Record) → IsInOrder d → set_judged v d fields ≡ Ok next → IsInOrder next
unfolding set_judged
set_taken v d next fields order h = by (with_providers v fields) h
  where
    by : (fs : Record) → of_eight (set_step d) fs ≡ Ok next → IsInOrder next
    by [] h = absurd (cc h)
    by (a ∷ []) h = absurd (cc h)
    by (a ∷ b ∷ []) h = absurd (cc h)
    by (a ∷ b ∷ c ∷ []) h = absurd (cc h)
    by (a ∷ b ∷ c ∷ e ∷ []) h = absurd (cc h)
    by (a ∷ b ∷ c ∷ e ∷ f ∷ []) h = absurd (cc h)
    by (a ∷ b ∷ c ∷ e ∷ f ∷ g ∷ []) h = absurd (cc h)
    by (a ∷ b ∷ c ∷ e ∷ f ∷ g ∷ i ∷ []) h = absurd (cc h)
    by (a ∷ b ∷ c ∷ e ∷ f ∷ g ∷ i ∷ j ∷ []) h = eight_taken d next a b c e f g i j order h
    by (a ∷ b ∷ c ∷ e ∷ f ∷ g ∷ i ∷ j ∷ k ∷ fs) h = absurd (cc h)

use_taken : (d next : Draft) (fields : Record) → IsInOrder d → use_judged d fields ≡ Ok next → IsInOrder next
unfolding use_judged
use_taken d next [] order h = absurd (cc h)
use_taken d next (a ∷ []) order h = absurd (cc h)
use_taken d next (a ∷ b ∷ []) order h = absurd (cc h)
use_taken d next (a ∷ b ∷ c ∷ []) order h = absurd (cc h)
use_taken d next (a ∷ b ∷ c ∷ e ∷ f ∷ fields) order h = absurd (cc h)
use_taken d next (set ∷ centre ∷ gets ∷ puts ∷ []) order h = by (name_of set) (name_of centre) (counts_of gets puts) refl h
  where
    at : (s : List ℕ) (counts : ℕ × ℕ) → counts_of gets puts ≡ Ok counts → (k : ℕ) → k < count_of d.tables
        → (member_added d.load s (record { dc = record { 0 = k }; gets = counts.0; puts = counts.1 }) >>= λ ss. Ok (record d { load = ss })) ≡ Ok next → IsInOrder next
    at s counts is k there e =
        let within = counts_within gets puts counts is in
        sets_taken d next (member_added d.load s (record { dc = record { 0 = k }; gets = counts.0; puts = counts.1 }))
        (λ ss added. member_in_order d.tables d.load ss s (record { dc = record { 0 = k }; gets = counts.0; puts = counts.1 }) order (record { gets = within.0; puts = within.1 }) there added) e

    found : (s c : List ℕ) (counts : ℕ × ℕ) → counts_of gets puts ≡ Ok counts → (o : Option ℕ) → number_of d.tables c ≡ o
        → (known o >>= λ k. member_added d.load s (record { dc = record { 0 = k }; gets = counts.0; puts = counts.1 }) >>= λ ss. Ok (record d { load = ss })) ≡ Ok next → IsInOrder next
    found s c counts is None at_c e = absurd (cc e)
    found s c counts is (Some k) at_c e = at s counts is k (centre_below d.tables c k at_c) e

    by : (a b : Result (List ℕ) Fault) (r : Result (ℕ × ℕ) Fault) → counts_of gets puts ≡ r
        → (a >>= λ s. b >>= λ c. r >>= λ counts. known (number_of d.tables c) >>= λ k. member_added d.load s (record { dc = record { 0 = k }; gets = counts.0; puts = counts.1 }) >>= λ ss. Ok (record d { load = ss })) ≡ Ok next → IsInOrder next
    by (Err f) b r is e = absurd (cc e)
    by (Ok s) (Err f) r is e = absurd (cc e)
    by (Ok s) (Ok c) (Err f) is e = absurd (cc e)
    by (Ok s) (Ok c) (Ok counts) is e = found s c counts is (number_of d.tables c) refl e

-- any record, and any entry
kind_taken : (v : Version) (d next : Draft) (k : Kind) (fields : Record) → IsInOrder d → kind_judged v d k fields ≡ Ok next → IsInOrder next
kind_taken v d next kind.Centre fields order h = dc_taken d next fields order h
kind_taken v d next kind.Link fields order h = link_taken d next fields order h
kind_taken v d next kind.Set fields order h = set_taken v d next fields order h
kind_taken v d next kind.Use fields order h = use_taken d next fields order h

record_taken : (d next : Draft) (fields : Record) → IsInOrder d → judged d fields ≡ Ok next → IsInOrder next
unfolding judged
record_taken d next fields order h = in_version d.version fields h
  where
    opened : (r : Result Version Fault) → (r >>= λ v. Ok (record d { version = Some v })) ≡ Ok next → IsInOrder next
    opened (Ok v) e = let same : record d { version = Some v } ≡ next = cc in subst IsInOrder same order
    opened (Err f) e = absurd (cc e)

    of_kind : (v : Version) (r : Result Kind Fault) (rest : Record) → (r >>= λ k. kind_judged v d k rest) ≡ Ok next → IsInOrder next
    of_kind v (Ok k) rest e = kind_taken v d next k rest order e
    of_kind v (Err f) rest e = absurd (cc e)

    in_version : (o : Option Version) (r : Record) → judged_in o d r ≡ Ok next → IsInOrder next
    in_version None r e = opened (version_of r) e
    in_version (Some v) [] e = absurd (cc e)
    in_version (Some v) (word ∷ rest) e = of_kind v (kind_of word) rest e

entry_taken : (d next : Draft) (entry : Entry) → IsInOrder d → entry_judged d entry ≡ Ok next → IsInOrder next
entry_taken d next None order h = absurd (cc h)
entry_taken d next (Some fields) order h = record_taken d next fields order h

abbrev IsWhole : Lists → Type 0
IsWhole w = IsComplete w × IsNamed w

end_whole : (d : Draft) (w : Lists) → IsInOrder d → completed d ≡ Ok w → IsWhole w
unfolding completed
end_whole d w order h = in_version d.version h
  where
    links : all_linked d.tables ≡ true → AreAllLinked d.tables
    links all a b low within = by (link_at d.tables a b) refl
      where
        by : (o : Option Fare) → link_at d.tables a b ≡ o → IsSome o
        by (Some fare) is = refl
        by None is = let no : all_linked d.tables ≡ false = unlinked d.tables a b low within is in absurd (cc (all, no))

    members : all_used d.load ≡ true → (s : ℕ) → s < length d.load → (set_at d.load s).members ≢ []
    members all s within none = let no : all_used d.load ≡ false = unused d.load s within none in cc (all, no)

    whole : all_linked d.tables ≡ true → all_used d.load ≡ true → IsWhole (world_of d.tables d.load)
    whole linked used = (
      world_complete d.tables d.load order.tabled order.loaded (links linked) (members used) order.inside,
      record { names = order.tabled.names; providers = order.tabled.providers; distinct = order.tabled.distinct; sets = order.loaded },
    )

    by : (l u : Bool) → all_linked d.tables ≡ l → all_used d.load ≡ u
        → (if l then (if u then Ok (world_of d.tables d.load) else Err (Bad cause.Members)) else Err (Bad cause.Link)) ≡ Ok w → IsWhole w
    by false u linked used e = absurd (cc e)
    by true false linked used e = absurd (cc e)
    by true true linked used e = let same : world_of d.tables d.load ≡ w = cc in subst IsWhole same (whole linked used)

    in_version : (o : Option Version) → world_in o d ≡ Ok w → IsWhole w
    in_version None e = absurd (cc e)
    in_version (Some v) e = by (all_linked d.tables) (all_used d.load) refl refl e

pub read_whole : (line : ℕ) (d : Draft) (es : List Entry) (w : Lists) → IsInOrder d → read_from line d es ≡ Ok w → IsWhole w
read_whole line d [] w order h = by (completed d) refl
  where
    by : (r : Result Lists Fault) → completed d ≡ r → IsWhole w
    by (Ok x) is = let e : Ok x ≡ Ok w = sym (world_from line d x is) ∙ h in let same : x ≡ w = cc in end_whole d w order (is ∙ ap Ok same)
    by (Err f) is = let e : Err (line, f) ≡ Ok w = sym (gap_from line d f is) ∙ h in absurd (cc e)
read_whole line d (entry ∷ es) w order h = by (entry_judged d entry) refl (λ next after said. read_whole (line + 1) next es w after said)
  where
    by : (r : Result Draft Fault) → entry_judged d entry ≡ r → ((next : Draft) → IsInOrder next → read_from (line + 1) next es ≡ Ok w → IsWhole w) → IsWhole w
    by (Ok next) is rest = rest next (entry_taken d next entry order is) (sym (taken_from line d next entry es is) ∙ h)
    by (Err f) is rest = let e : Err (line, f) ≡ Ok w = sym (refused_from line d f entry es is) ∙ h in absurd (cc e)

-- so is one that a text says
pub csv_whole : (text : List ℕ) (w : Lists) → csv_says text ≡ Ok w → IsWhole w
csv_whole text w h = read_whole 1 nothing_read (map Some (records_in text)) w nothing_in_order h

entries_whole : (o : Option (List Entry)) (w : Lists) → entries_say o ≡ Ok w → IsWhole w
entries_whole None w h = absurd (cc h)
entries_whole (Some entries) w h = read_whole 1 nothing_read entries w nothing_in_order h

document_whole : (o : Option Members) (w : Lists) → document_says o ≡ Ok w → IsWhole w
document_whole None w h = absurd (cc h)
document_whole (Some t) w h = entries_whole (document_entries t) w h

pub toml_whole : (text : List ℕ) (w : Lists) → toml_says text ≡ Ok w → IsWhole w
toml_whole text w h = by (is_utf8 text) h
  where
    by : (b : Bool) → (if b then document_says (parse_document text) else Err (0, Bad cause.Toml)) ≡ Ok w → IsWhole w
    by true e = document_whole (parse_document text) w e
    by false e = absurd (cc e)
