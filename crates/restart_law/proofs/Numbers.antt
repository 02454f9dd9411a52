-- The numbers that the messages of a restart run have among all messages of the run that it stands for.
use Rattle.std.proofs.Common.{◌≡◌, inl, inr, ℕ, ◌+◌, ◌-◌, ◌<◌, ◌≤◌, zero, suc, List, [], ◌∷◌, ◌++◌, length, refl, sym, ap, ◌∙◌, arith}
use Rattle.std.specs.Prelude.{slice_get, slice_index_or}
use Rattle.std.specs.List.{range_with_len}
use Rattle.std.proofs.lemmas.Bool.{cases_lt}
use Rattle.std.proofs.lemmas.List.{length-append, get_or_append_left, get_or-append-add}
use Rattle.std.proofs.lemmas.List.FromFn.{get_or-range_with_len, length-range_with_len}
use Rattle.wire_msg.specs.declared.outputs.Post.{Post}

-- number n is where message n stands among all
pub record IsNumbered (numbers : List ℕ) (sent all : List Post) : Type 0 where
  pub count : length numbers ≡ length sent
  pub below : (n : ℕ) → n < length numbers → slice_index_or numbers n 0 < length all
  pub rising : (n m : ℕ) → n < m → m < length numbers → slice_index_or numbers n 0 < slice_index_or numbers m 0
  pub same : (n : ℕ) → n < length numbers → slice_get all (slice_index_or numbers n 0) ≡ slice_get sent n

pub nothing_numbered : IsNumbered [] [] []
nothing_numbered = record {
  count = refl;
  below = λ n lt. absurd (omega (arith, lt));
  rising = λ n m lt past. absurd (omega (arith, past));
  same = λ n lt. absurd (omega (arith, lt));
}

get_left : (xs ys : List Post) (n : ℕ) → n < length xs → slice_get (xs ++ ys) n ≡ slice_get xs n
get_left [] ys n lt = absurd (omega (arith, lt))
get_left (x ∷ xs) ys zero lt = refl
get_left (x ∷ xs) ys (suc n) lt = get_left xs ys n (omega (arith, lt))

get_right : (xs ys : List Post) (n i : ℕ) → i ≡ length xs + n → slice_get (xs ++ ys) i ≡ slice_get ys n
get_right [] ys n i is = ap (λ (k : ℕ). slice_get ys k) (omega (arith, is))
get_right (x ∷ xs) ys n zero is = absurd (omega (arith, is))
get_right (x ∷ xs) ys n (suc i) is = get_right xs ys n i (omega (arith, is))

-- the run alone sends these
pub sent_alone : (numbers : List ℕ) (sent all posts : List Post) → IsNumbered numbers sent all → IsNumbered numbers sent (all ++ posts)
sent_alone numbers sent all posts is = record {
  count = is.count;
  below = λ n lt. let small = is.below n lt in let more = length-append all posts in omega (arith, small, more);
  rising = is.rising;
  same = λ n lt. get_left all posts (slice_index_or numbers n 0) (is.below n lt) ∙ is.same n lt;
}

-- both send these
module _ (numbers : List ℕ) (sent all posts : List Post) (is : IsNumbered numbers sent all) where
  abbrev new : List ℕ
  new = range_with_len (length all) (length posts)

  abbrev pub with_new : List ℕ
  with_new = numbers ++ new

  abbrev at : ℕ → ℕ
  at n = slice_index_or with_new n 0

  -- a message of before, or one of the new ones
  data Place (n : ℕ) : Type 0 where
    Old : n < length numbers → at n ≡ slice_index_or numbers n 0 → Place n
    New : (i : ℕ) → i < length posts → n ≡ length numbers + i → at n ≡ length all + i → Place n

  new_count : length new ≡ length posts
  new_count = length-range_with_len (length all) (length posts)

  with_count : length with_new ≡ length numbers + length posts
  with_count = let a = length-append numbers new in let b = new_count in omega (arith, a, b)

  new_at : (n i : ℕ) → i < length posts → n ≡ length numbers + i → Place n
  new_at n i lt is_at =
      New i lt is_at (ap at is_at ∙ get_or-append-add numbers new i 0 ∙ get_or-range_with_len (length all) (length posts) i 0 lt)

  place : (n : ℕ) → n < length with_new → Place n
  place n lt =
      elim (cases_lt n (length numbers)) as (λ _. Place n) [
        | inl old ↦ Old old (get_or_append_left numbers new 0 n old)
        | inr past ↦ behind past
      ]
    where
      behind : length numbers ≤ n → Place n
      behind past =
          let all_of = with_count in
          let back : n ≡ length numbers + (n - length numbers) = omega (arith, past) in
          new_at n (n - length numbers) (omega (arith, lt, all_of, past)) back

  below_by : (n : ℕ) → Place n → at n < length (all ++ posts)
  below_by n (Old old at_is) = let small = is.below n old in let more = length-append all posts in omega (arith, small, more, at_is)
  below_by n (New i lt n_is at_is) = let more = length-append all posts in omega (arith, lt, more, at_is)

  rising_by : (n m : ℕ) → n < m → Place n → Place m → at n < at m
  rising_by n m less (Old a a_is) (Old b b_is) = let rises = is.rising n m less b in omega (arith, rises, a_is, b_is)
  rising_by n m less (Old a a_is) (New j b m_is b_is) = let small = is.below n a in omega (arith, small, a_is, b_is)
  rising_by n m less (New i a n_is a_is) (Old b b_is) = absurd (omega (arith, less, n_is, b))
  rising_by n m less (New i a n_is a_is) (New j b m_is b_is) = omega (arith, less, n_is, m_is, a_is, b_is)

  same_by : (n : ℕ) → Place n → slice_get (all ++ posts) (at n) ≡ slice_get (sent ++ posts) n
  same_by n (Old old at_is) =
      let count = is.count in
      let within : n < length sent = omega (arith, old, count) in
      ap (λ (k : ℕ). slice_get (all ++ posts) k) at_is ∙ get_left all posts (slice_index_or numbers n 0) (is.below n old) ∙ is.same n old ∙ sym (get_left sent posts n within)
  same_by n (New i lt n_is at_is) =
      let count = is.count in
      let there : n ≡ length sent + i = omega (arith, n_is, count) in
      get_right all posts i (at n) at_is ∙ sym (get_right sent posts i n there)

  pub sent_by_both : IsNumbered with_new (sent ++ posts) (all ++ posts)
  sent_by_both = record {
    count = let a = with_count in let b = length-append sent posts in let c = is.count in omega (arith, a, b, c);
    below = λ n lt. below_by n (place n lt);
    rising = λ n m less lt. rising_by n m less (place n (omega (arith, less, lt))) (place m lt);
    same = λ n lt. same_by n (place n lt);
  }

-- a number stays as others come behind it
pub number_stays : (numbers more : List ℕ) (n : ℕ) → n < length numbers → slice_index_or (numbers ++ more) n 0 ≡ slice_index_or numbers n 0
number_stays numbers more n lt = get_or_append_left numbers more 0 n lt

pub message_stays : (sent more : List Post) (n : ℕ) → n < length sent → slice_get (sent ++ more) n ≡ slice_get sent n
message_stays sent more n lt = get_left sent more n lt
