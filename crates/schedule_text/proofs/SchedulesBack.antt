-- The text that is printed of a schedule says that schedule.
use Rattle.std.proofs.Common.{◌≡◌, ℕ, ◌+◌, ◌<◌, ◌≤◌, ◌^◌, ◌==◌, false, List, [], ◌∷◌, ◌++◌, length, slice_index_or, None, Ok, refl, sym, ap, ◌∙◌, append_assoc, append-nil, length-append, arith}
use Rattle.std.specs.Prelude.{codes, map}
use Rattle.std.specs.List.{All, flat_map}
use Rattle.std.specs.Fmt.{decimal}
use Rattle.std.proofs.lemmas.Bool.{le-leb, lt-ltb, false_from_ne_true, eqb-true}
use Rattle.std.proofs.lemmas.List.Elements.{All-head, All-tail}
use Rattle.span_base.specs.Policy.{IsSoundPolicy}
use Rattle.span_base.specs.declared.ids.DcId.{DcId}
use Rattle.span_base.specs.declared.ids.SetId.{SetId}
use Rattle.span_base.specs.declared.policy.Policy.{Policy}
use Rattle.span_base.specs.declared.words.What.TheVariants as what
use Rattle.wire_msg.proofs.SoundTest.{decide_sound}
use Rattle.world_core.specs.declared.event.Header.{Header}
use Rattle.world_core.specs.declared.event.Event.{Event}
use Rattle.world_core.specs.Run.{IsHeader}
use Rattle.schedule_text.specs.declared.setting.Form.{Form}
use Rattle.schedule_text.specs.Words.{lines_of}
use Rattle.schedule_text.specs.Headers.{Opened, blank, is_begin, replicas_line, set_line, key_line, proxy_line, line_by, header_line, by_words, header_from, header_says, begin_line}
use Rattle.schedule_text.specs.Tables.{setting_of}
use Rattle.schedule_text.specs.Schedules.{Schedule, numbered, first_fault, events_of, unless_fault, with_events}
use Rattle.schedule_text.specs.Printed.{joined, line_text, policy_words, event_words, event_text, ended, first_text, set_text, key_text, proxy_text, header_text}
use Rattle.schedule_text.specs.Spellable.{IsSpelledPolicy, IsSpelledHeader, IsSpelledEvent, SchedulesAreReadBack}
use Rattle.schedule_text.proofs.Joining.{AreFree}
use Rattle.schedule_text.proofs.Bytes.{AllHave, is_inked, is_lined, all_inked, print_digits, lines_next, line_free, free_of}
use Rattle.schedule_text.proofs.NumbersBack.{number_back, count_back, centre_back}
use Rattle.schedule_text.proofs.PoliciesBack.{policy_back, policy_print}
use Rattle.schedule_text.proofs.EventsBack.{words_back, event_inked, event_back}

-- ---- lines

-- a line for each item, and what follows
lines_each : {A : Type 0} (line : A → List ℕ) (items : List A) (rest : List ℕ) → All (λ item. AreFree (λ c. c == 10) (line item)) items
    → lines_of (flat_map (λ item. line item ++ codes "\n") items ++ rest) ≡ map line items ++ lines_of rest
lines_each line [] rest free = refl
lines_each {A} line (item ∷ items) rest free =
    let more = flat_map (λ (item : A). line item ++ codes "\n") items in
    ap lines_of (append_assoc (line item ++ codes "\n") more rest ∙ append_assoc (line item) (codes "\n") (more ++ rest))
    ∙ lines_next (line item) (more ++ rest) (All-head (λ (item : A). AreFree (λ c. c == 10) (line item)) item items free)
    ∙ ap (λ (lines : List (List ℕ)). line item ∷ lines) (lines_each line items rest (All-tail (λ (item : A). AreFree (λ c. c == 10) (line item)) item items free))

-- ---- the lines of a header

count_line : (word : List ℕ) (n : ℕ) → AllHave is_inked (word ∷ []) → n < 2 ^ 32 → AllHave is_inked (word ∷ decimal n ∷ [])
count_line word n have low = (have.0, all_inked (decimal n ∷ []) (print_digits n (omega (arith, low)), tt))

-- a line that is taken
stepped : (line : ℕ) (header next : Header) (text : List ℕ) (texts : List (List ℕ)) → is_begin header text ≡ false → header_line header text ≡ Ok next → header_from line header (text ∷ texts) ≡ header_from (line + 1) next texts
unfolding header_from
stepped line header next text texts begins is = rw (begins, is) refl

worded : (header : Header) (word : List ℕ) (words : List (List ℕ)) → AllHave is_inked (word ∷ words) → header_line header (line_text (word ∷ words)) ≡ line_by header word words
unfolding header_line
worded header word words have = ap (by_words header) (words_back word words have)

abbrev of : ℕ → List Policy → List SetId → List DcId → Header
of replicas sets keys proxies = record { replicas = replicas; sets = sets; keys = keys; proxies = proxies }

positive : (n : ℕ) → 1 ≤ n → (n == 0) ≡ false
positive n some = false_from_ne_true (n == 0) (λ h. let e = eqb-true n 0 h in omega (arith, e, some))

replicas_next : (replicas : ℕ) → 1 ≤ replicas → replicas ≤ 16 → line_by blank (codes "replicas") (decimal replicas ∷ []) ≡ Ok (of replicas [] [] [])
unfolding line_by replicas_line
replicas_next replicas some few = rw (number_back what.Replicas 16 replicas (omega arith) few) (rw (positive replicas some) refl)

set_next : (replicas : ℕ) (sets : List Policy) (policy : Policy) → 1 ≤ replicas → replicas ≤ 16 → length sets + 1 ≤ 64 → IsSpelledPolicy replicas policy → IsSoundPolicy policy
    → line_by (of replicas sets [] []) (codes "set") (policy_words policy) ≡ Ok (of replicas (sets ++ policy ∷ []) [] [])
unfolding line_by set_line
set_next replicas sets policy some few small is sound =
    rw (positive replicas some) (rw (le-leb (length sets + 1) 64 small) (rw (policy_back replicas policy few is) (rw ((decide_sound policy).1 sound) refl)))

key_next : (replicas : ℕ) (sets : List Policy) (keys : List SetId) (set : SetId) → 1 ≤ length sets → length sets ≤ 64 → length keys + 1 ≤ 1000 → set.0 < length sets
    → line_by (of replicas sets keys []) (codes "key") (decimal set.0 ∷ []) ≡ Ok (of replicas sets (keys ++ set ∷ []) [])
unfolding line_by key_line
key_next replicas sets keys set some few small low =
    rw (positive (length sets) some) (rw (le-leb (length keys + 1) 1000 small) (rw (count_back set.0 (omega (arith, few, low))) (rw (lt-ltb set.0 (length sets) low) refl)))

proxy_next : (replicas : ℕ) (sets : List Policy) (keys : List SetId) (proxies : List DcId) (at : DcId) → 1 ≤ length keys → length proxies + 1 ≤ 64 → at.0 < 16
    → line_by (of replicas sets keys proxies) (codes "proxy") (decimal at.0 ∷ []) ≡ Ok (of replicas sets keys (proxies ++ at ∷ []))
unfolding line_by proxy_line
proxy_next replicas sets keys proxies at some small low =
    rw (positive (length keys) some) (rw (le-leb (length proxies + 1) 64 small) (rw (centre_back at low) refl))

-- what the lines say from a header on, whichever line of the text comes next
abbrev Says : Header → List (List ℕ) → Opened → Type 0
Says header lines opened = (line : ℕ) → header_from line header lines ≡ Ok opened

abbrev set_line_of : Policy → List ℕ
set_line_of policy = line_text (codes "set" ∷ policy_words policy)

abbrev key_line_of : SetId → List ℕ
key_line_of set = line_text (codes "key" ∷ decimal set.0 ∷ [])

abbrev proxy_line_of : DcId → List ℕ
proxy_line_of at = line_text (codes "proxy" ∷ decimal at.0 ∷ [])

set_inked : (replicas : ℕ) (policy : Policy) → replicas ≤ 16 → IsSpelledPolicy replicas policy → AllHave is_inked (codes "set" ∷ policy_words policy)
set_inked replicas policy few is = (refl, all_inked (policy_words policy) (policy_print replicas policy few is))

sets_say : (replicas : ℕ) (done sets : List Policy) (rest : List (List ℕ)) (opened : Opened) → 1 ≤ replicas → replicas ≤ 16 → length done + length sets ≤ 64 → All (IsSpelledPolicy replicas) sets → All IsSoundPolicy sets
    → Says (of replicas (done ++ sets) [] []) rest opened → Says (of replicas done [] []) (map set_line_of sets ++ rest) opened
unfolding joined
sets_say replicas done [] rest opened some few small all sound says = λ line. ap (λ (ps : List Policy). header_from line (of replicas ps [] []) rest) (sym (append-nil done)) ∙ says line
sets_say replicas done (policy ∷ sets) rest opened some few small all sound says =
    λ line. let is = All-head (IsSpelledPolicy replicas) policy sets all in
    stepped line (of replicas done [] []) (of replicas (done ++ policy ∷ []) [] []) (set_line_of policy) (map set_line_of sets ++ rest) refl
    (worded (of replicas done [] []) (codes "set") (policy_words policy) (set_inked replicas policy few is)
    ∙ set_next replicas done policy some few (omega (arith, small)) is (All-head IsSoundPolicy policy sets sound))
    ∙ sets_say replicas (done ++ policy ∷ []) sets rest opened some few (let e = length-append done (policy ∷ []) in omega (arith, e, small)) (All-tail (IsSpelledPolicy replicas) policy sets all) (All-tail IsSoundPolicy policy sets sound)
    (λ line. ap (λ (ps : List Policy). header_from line (of replicas ps [] []) rest) (append_assoc done (policy ∷ []) sets) ∙ says line) (line + 1)

keys_say : (replicas : ℕ) (sets : List Policy) (done keys : List SetId) (rest : List (List ℕ)) (opened : Opened) → 1 ≤ length sets → length sets ≤ 64 → length done + length keys ≤ 1000 → All (λ set. set.0 < length sets) keys
    → Says (of replicas sets (done ++ keys) []) rest opened → Says (of replicas sets done []) (map key_line_of keys ++ rest) opened
unfolding joined
keys_say replicas sets done [] rest opened some few small low says = λ line. ap (λ (ks : List SetId). header_from line (of replicas sets ks []) rest) (sym (append-nil done)) ∙ says line
keys_say replicas sets done (set ∷ keys) rest opened some few small low says =
    λ line. let below = All-head (λ (set : SetId). set.0 < length sets) set keys low in
    stepped line (of replicas sets done []) (of replicas sets (done ++ set ∷ []) []) (key_line_of set) (map key_line_of keys ++ rest) refl
    (worded (of replicas sets done []) (codes "key") (decimal set.0 ∷ []) (count_line (codes "key") set.0 (refl, tt) (omega (arith, few, below)))
    ∙ key_next replicas sets done set some few (omega (arith, small)) below)
    ∙ keys_say replicas sets (done ++ set ∷ []) keys rest opened some few (let e = length-append done (set ∷ []) in omega (arith, e, small)) (All-tail (λ (set : SetId). set.0 < length sets) set keys low)
    (λ line. ap (λ (ks : List SetId). header_from line (of replicas sets ks []) rest) (append_assoc done (set ∷ []) keys) ∙ says line) (line + 1)

proxies_say : (replicas : ℕ) (sets : List Policy) (keys : List SetId) (done proxies : List DcId) (rest : List (List ℕ)) (opened : Opened) → 1 ≤ length keys → length done + length proxies ≤ 64 → All (λ at. at.0 < 16) proxies
    → Says (of replicas sets keys (done ++ proxies)) rest opened → Says (of replicas sets keys done) (map proxy_line_of proxies ++ rest) opened
unfolding joined
proxies_say replicas sets keys done [] rest opened some small low says = λ line. ap (λ (ps : List DcId). header_from line (of replicas sets keys ps) rest) (sym (append-nil done)) ∙ says line
proxies_say replicas sets keys done (at ∷ proxies) rest opened some small low says =
    λ line. let below = All-head (λ (at : DcId). at.0 < 16) at proxies low in
    stepped line (of replicas sets keys done) (of replicas sets keys (done ++ at ∷ [])) (proxy_line_of at) (map proxy_line_of proxies ++ rest) refl
    (worded (of replicas sets keys done) (codes "proxy") (decimal at.0 ∷ []) (count_line (codes "proxy") at.0 (refl, tt) (omega (arith, below)))
    ∙ proxy_next replicas sets keys done at some (omega (arith, small)) below)
    ∙ proxies_say replicas sets keys (done ++ at ∷ []) proxies rest opened some (let e = length-append done (at ∷ []) in omega (arith, e, small)) (All-tail (λ (at : DcId). at.0 < 16) at proxies low)
    (λ line. ap (λ (ps : List DcId). header_from line (of replicas sets keys ps) rest) (append_assoc done (at ∷ []) proxies) ∙ says line) (line + 1)

begin_says : (header : Header) (rest : List (List ℕ)) → 1 ≤ length header.proxies → Says header (codes "begin" ∷ rest) (record { header = header; lines = rest })
unfolding header_from
begin_says header rest some line = rw (positive (length header.proxies) some) refl

-- the lines of a header, and those behind it
abbrev lines_behind : Header → List (List ℕ) → List (List ℕ)
lines_behind header rest =
    codes "span-schedule 1" ∷ line_text (codes "replicas" ∷ decimal header.replicas ∷ [])
    ∷ (map set_line_of header.sets ++ (map key_line_of header.keys ++ (map proxy_line_of header.proxies ++ codes "begin" ∷ rest)))

header_back : (header : Header) (rest : List (List ℕ)) → IsSpelledHeader header → header_says (lines_behind header rest) ≡ Ok (record { header = header; lines = rest })
unfolding header_says joined
header_back header rest is =
    let opens = is.opens in
    let few = opens.replicas.1 in
    let few_sets = opens.sets.1 in
    let few_keys = opens.keys.1 in
    let few_proxies = opens.proxies.1 in
    let opened : Opened = record { header = header; lines = rest } in
    stepped 2 blank (of header.replicas [] [] []) (line_text (codes "replicas" ∷ decimal header.replicas ∷ [])) _ refl
    (worded blank (codes "replicas") (decimal header.replicas ∷ []) (count_line (codes "replicas") header.replicas (refl, tt) (omega (arith, few))) ∙ replicas_next header.replicas opens.replicas.0 few)
    ∙ sets_say header.replicas [] header.sets _ opened opens.replicas.0 few (omega (arith, few_sets)) is.policies opens.policies
    (keys_say header.replicas header.sets [] header.keys _ opened opens.sets.0 few_sets (omega (arith, few_keys)) opens.key_sets
    (proxies_say header.replicas header.sets header.keys [] header.proxies _ opened opens.keys.0 (omega (arith, few_proxies)) is.proxies (begin_says header rest opens.proxies.0))) 3

-- ---- the lines of a text

first_lines : (replicas : ℕ) (rest : List ℕ) → replicas ≤ 16 → lines_of (first_text replicas ++ rest) ≡ codes "span-schedule 1" ∷ line_text (codes "replicas" ∷ decimal replicas ∷ []) ∷ lines_of rest
unfolding first_text joined
first_lines replicas rest few =
    let digits = decimal replicas in
    ap lines_of (append_assoc (codes "span-schedule 1\nreplicas " ++ digits) (codes "\n") rest)
    ∙ lines_next (codes "span-schedule 1") ((codes "replicas " ++ digits) ++ 10 ∷ rest) (free_of is_lined 10 (codes "span-schedule 1") refl refl)
    ∙ ap (λ (line : List ℕ). codes "span-schedule 1" ∷ lines_of (line ++ 10 ∷ rest)) (ap (λ (t : List ℕ). codes "replicas " ++ t) (sym (append-nil digits)))
    ∙ ap (λ (lines : List (List ℕ)). codes "span-schedule 1" ∷ lines) (lines_next (line_text (codes "replicas" ∷ digits ∷ [])) rest (line_free (codes "replicas" ∷ digits ∷ []) (count_line (codes "replicas") replicas (refl, tt) (omega (arith, few)))))

begin_lines : (rest : List ℕ) → lines_of (codes "begin\n" ++ rest) ≡ codes "begin" ∷ lines_of rest
begin_lines rest = lines_next (codes "begin") rest (free_of is_lined 10 (codes "begin") refl refl)

regroup : (a b c d e f : List ℕ) → ((((a ++ b) ++ c) ++ d) ++ e) ++ f ≡ a ++ (b ++ (c ++ (d ++ (e ++ f))))
regroup a b c d e f = append_assoc (((a ++ b) ++ c) ++ d) e f ∙ append_assoc ((a ++ b) ++ c) d (e ++ f) ∙ append_assoc (a ++ b) c (d ++ (e ++ f)) ∙ append_assoc a b (c ++ (d ++ (e ++ f)))

header_lines : (header : Header) (rest : List ℕ) → IsSpelledHeader header → lines_of (header_text header ++ rest) ≡ lines_behind header (lines_of rest)
unfolding set_text key_text proxy_text
header_lines header rest is =
    let opens = is.opens in
    let few = opens.replicas.1 in
    let S = flat_map set_text header.sets in
    let K = flat_map key_text header.keys in
    let P = flat_map proxy_text header.proxies in
    let free_sets : All (λ policy. AreFree (λ c. c == 10) (set_line_of policy)) header.sets = λ k d within. line_free (codes "set" ∷ policy_words (slice_index_or header.sets k d)) (set_inked header.replicas (slice_index_or header.sets k d) few (is.policies k d within)) in
    let free_keys : All (λ set. AreFree (λ c. c == 10) (key_line_of set)) header.keys =
    λ k d within. let low = opens.key_sets k d within in let most = opens.sets.1 in
    line_free (codes "key" ∷ decimal (slice_index_or header.keys k d).0 ∷ []) (count_line (codes "key") (slice_index_or header.keys k d).0 (refl, tt) (omega (arith, low, most))) in
    let free_proxies : All (λ at. AreFree (λ c. c == 10) (proxy_line_of at)) header.proxies =
    λ k d within. let low = is.proxies k d within in
    line_free (codes "proxy" ∷ decimal (slice_index_or header.proxies k d).0 ∷ []) (count_line (codes "proxy") (slice_index_or header.proxies k d).0 (refl, tt) (omega (arith, low))) in
    ap lines_of (regroup (first_text header.replicas) S K P (codes "begin\n") rest)
    ∙ first_lines header.replicas (S ++ (K ++ (P ++ (codes "begin\n" ++ rest)))) few
    ∙ ap (λ (lines : List (List ℕ)). codes "span-schedule 1" ∷ line_text (codes "replicas" ∷ decimal header.replicas ∷ []) ∷ lines)
    (lines_each set_line_of header.sets (K ++ (P ++ (codes "begin\n" ++ rest))) free_sets
    ∙ ap (λ (lines : List (List ℕ)). map set_line_of header.sets ++ lines)
    (lines_each key_line_of header.keys (P ++ (codes "begin\n" ++ rest)) free_keys
    ∙ ap (λ (lines : List (List ℕ)). map key_line_of header.keys ++ lines)
    (lines_each proxy_line_of header.proxies (codes "begin\n" ++ rest) free_proxies
    ∙ ap (λ (lines : List (List ℕ)). map proxy_line_of header.proxies ++ lines) (begin_lines rest))))

-- ---- the events

event_lines : (form : Form) (header : Header) (events : List Event) → IsHeader header → All (IsSpelledEvent form header) events → lines_of (flat_map (λ event. ended (event_text event)) events) ≡ map event_text events
unfolding lines_of
event_lines form header events opens all =
    let free : All (λ event. AreFree (λ c. c == 10) (event_text event)) events =
    λ k d within. line_free (event_words (slice_index_or events k d)) (event_inked form header (slice_index_or events k d) opens (all k d within)) in
    ap lines_of (sym (append-nil (flat_map (λ event. ended (event_text event)) events))) ∙ lines_each event_text events [] free ∙ append-nil (map event_text events)

no_fault : (form : Form) (header : Header) (line number : ℕ) (events : List Event) → IsHeader header → All (IsSpelledEvent form header) events → number + length events ≤ 1000001
    → first_fault (setting_of form header) line number (map event_text events) ≡ None
unfolding first_fault
no_fault form header line number [] opens all few = refl
no_fault form header line number (event ∷ events) opens all few =
    let said : numbered (setting_of form header) number (event_text event) ≡ Ok event =
    rw (le-leb number 1000000 (omega (arith, few))) (rw (event_back form header event opens (All-head (IsSpelledEvent form header) event events all)) refl) in
    rw said (no_fault form header (line + 1) (number + 1) events opens (All-tail (IsSpelledEvent form header) event events all) (omega (arith, few)))

events_back : (form : Form) (header : Header) (events : List Event) → IsHeader header → All (IsSpelledEvent form header) events → events_of (setting_of form header) (map event_text events) ≡ events
unfolding events_of
events_back form header [] opens all = refl
events_back form header (event ∷ events) opens all =
    rw (event_back form header event opens (All-head (IsSpelledEvent form header) event events all))
    (ap (λ (es : List Event). event ∷ es) (events_back form header events opens (All-tail (IsSpelledEvent form header) event events all)))

pub schedules_are_read_back : SchedulesAreReadBack
schedules_are_read_back form schedule is =
    let header = schedule.header in
    let events = schedule.events in
    let opens = is.header.opens in
    let few = is.few in
    ap (λ (lines : List (List ℕ)). with_events form (header_says lines)) (header_lines header (flat_map (λ event. ended (event_text event)) events) is.header)
    ∙ ap (with_events form) (header_back header (lines_of (flat_map (λ event. ended (event_text event)) events)) is.header)
    ∙ ap (λ (lines : List (List ℕ)). with_events form (Ok (record { header = header; lines = lines }))) (event_lines form header events opens is.events)
    ∙ ap (unless_fault (record { header = header; events = events_of (setting_of form header) (map event_text events) })) (no_fault form header (begin_line header + 1) 1 events opens is.events (omega (arith, few)))
    ∙ ap (λ (es : List Event). let it : Schedule = record { header = header; events = es } in Ok it) (events_back form header events opens is.events)
