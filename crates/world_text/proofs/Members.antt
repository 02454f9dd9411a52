-- The tables of a document, and what the code sees of them.
use Rattle.std.proofs.Common.{◌≡◌, Bor, Bool, true, false, List, [], ◌∷◌, length, map, Option, Some, None, IsSome, option_map, refl, sym, ap, ◌∙◌, arith, String, Global}
use Rattle.std.specs.Fmt.{signed_decimal}
use Rattle.std.specs.List.{list_all}
use Rattle.std.specs.Prelude.{◌&&◌, is_some, IfSome, IfNone}
use Rattle.std.specs.Bool.{then_some}
use Rattle.toml.specs.Data.{Data, string, integer, float, boolean, datetime, array, table, Items, Members, as_str, as_integer, as_array, as_table}
use Rattle.toml.specs.View.{view, items_view, members_view}
use Rattle.toml.specs.declared.value.Value.{Value}
use Rattle.world_text.specs.declared.kinds.Kind.{Kind}
use Rattle.world_text.specs.declared.kinds.Version.{Version}
use Rattle.world_text.specs.ReadWorld.{Entry}
use Rattle.world_text.specs.Toml.{key_count, table_record, text_in, number_in, with_table, tables_in, tables_at}
use Rattle.world_text.specs.Taken.{data_entry, entry_of}

-- a map has as many keys as entries
pub key_count-view : (es : List (String Global × Value)) → key_count (members_view es) ≡ length es
unfolding key_count
key_count-view [] = refl
key_count-view (e ∷ es) = omega (arith, key_count-view es)

-- what the accessors of a value say of a field
pub text_is : (d : Data) → text_in (Some d) ≡ as_str d
text_is (string bytes) = refl
text_is (integer z) = refl
text_is (float x) = refl
text_is (boolean b) = refl
text_is (datetime dt) = refl
text_is (array ds) = refl
text_is (table ms) = refl

pub number_is : (d : Data) → number_in (Some d) ≡ option_map signed_decimal (as_integer d)
number_is (string bytes) = refl
number_is (integer z) = refl
number_is (float x) = refl
number_is (boolean b) = refl
number_is (datetime dt) = refl
number_is (array ds) = refl
number_is (table ms) = refl

-- and of an array of tables
pub array_is : (d : Data) (items : Items) → as_array d ≡ Some items → tables_at (Some d) ≡ tables_in items
array_is (string bytes) items e = absurd (cc e)
array_is (integer z) items e = absurd (cc e)
array_is (float x) items e = absurd (cc e)
array_is (boolean b) items e = absurd (cc e)
array_is (datetime dt) items e = absurd (cc e)
array_is (array ds) items e = let same : ds ≡ items = cc in ap tables_in same
array_is (table ms) items e = absurd (cc e)

pub no_array : (d : Data) → as_array d ≡ None → tables_at (Some d) ≡ None
no_array (string bytes) e = refl
no_array (integer z) e = refl
no_array (float x) e = refl
no_array (boolean b) e = refl
no_array (datetime dt) e = refl
no_array (array ds) e = absurd (cc e)
no_array (table ms) e = refl

-- and of a table
pub entry_is : (version : Version) (k : Kind) (d : Data) (t : Members) → as_table d ≡ Some t → data_entry version k d ≡ table_record version k t
entry_is version k (string bytes) t e = absurd (cc e)
entry_is version k (integer z) t e = absurd (cc e)
entry_is version k (float x) t e = absurd (cc e)
entry_is version k (boolean b) t e = absurd (cc e)
entry_is version k (datetime dt) t e = absurd (cc e)
entry_is version k (array ds) t e = absurd (cc e)
entry_is version k (table ms) t e = let same : ms ≡ t = cc in ap (table_record version k) same

-- the entries of tables are those of the values that they were seen from
one_more : (version : Version) (k : Kind) (d : Data) (rest : Option (List Members)) (ts : List Members) (entries : List Entry) → with_table d rest ≡ Some ts
    → ((more : List Members) → rest ≡ Some more → map (table_record version k) more ≡ entries) → map (table_record version k) ts ≡ data_entry version k d ∷ entries
one_more version k (table t) (Some more) ts entries e is = let same : ts ≡ t ∷ more = cc in rw (same, is more refl) refl
one_more version k (table t) None ts entries e is = absurd (cc e)
one_more version k (string bytes) rest ts entries e is = absurd (cc e)
one_more version k (integer z) rest ts entries e is = absurd (cc e)
one_more version k (float x) rest ts entries e is = absurd (cc e)
one_more version k (boolean b) rest ts entries e is = absurd (cc e)
one_more version k (datetime dt) rest ts entries e is = absurd (cc e)
one_more version k (array ds) rest ts entries e is = absurd (cc e)

pub record_entries : (version : Version) (k : Kind) (vs : List Value) (ts : List Members) → tables_in (items_view vs) ≡ Some ts → map (table_record version k) ts ≡ map (entry_of version k) vs
unfolding tables_in
record_entries version k [] ts e = let none : ts ≡ [] = cc in rw none refl
record_entries version k (v ∷ vs) ts e = one_more version k (view v) (tables_in (items_view vs)) ts (map (entry_of version k) vs) e (record_entries version k vs)

-- where all values are tables, and only there, the items are
is_table : (d : Data) (rest : Option (List Members)) → is_some (with_table d rest) ≡ (is_some (as_table d) && is_some rest)
is_table (string bytes) rest = refl
is_table (integer z) rest = refl
is_table (float x) rest = refl
is_table (boolean b) rest = refl
is_table (datetime dt) rest = refl
is_table (array ds) rest = refl
is_table (table ms) None = refl
is_table (table ms) (Some rest) = refl

are_tables : (vs : List Value) → is_some (tables_in (items_view vs)) ≡ list_all (λ value. is_some (as_table (view value))) vs
unfolding tables_in
are_tables [] = refl
are_tables (v ∷ vs) = is_table (view v) (tables_in (items_view vs)) ∙ ap (λ b. is_some (as_table (view v)) && b) (are_tables vs)

not_some : {A : Type 0} (o : Option A) → is_some o ≡ false → o ≡ None
not_some None e = refl
not_some (Some x) e = absurd (cc e)

-- the values, where all are tables
pub tables_some : (test : Bool) (values : Bor (List Value)) (at : Option (List Members)) → test ≡ list_all (λ value. is_some (as_table (view value))) values.now → at ≡ tables_in (items_view values.now)
    → IfSome (then_some test values) (λ values. (at ≡ tables_in (items_view values.now)) × IsSome (tables_in (items_view values.now)))
tables_some true values at all is = (is, are_tables values.now ∙ sym all)
tables_some false values at all is = tt

pub tables_none : (test : Bool) (values : Bor (List Value)) (at : Option (List Members)) → test ≡ list_all (λ value. is_some (as_table (view value))) values.now → at ≡ tables_in (items_view values.now)
    → IfNone (then_some test values) (at ≡ None)
tables_none true values at all is = tt
tables_none false values at all is = is ∙ not_some (tables_in (items_view values.now)) (are_tables values.now ∙ sym all)
