-- Messages that a wire gives.
use Rattle.std.proofs.Common.{◌≡◌, ℕ, List, get_or, slice_get, sym, subst}
use Rattle.std.specs.Prelude.{Option, Some, None, IfSome}
use Rattle.std.proofs.lemmas.Option.{slice_get_within, get_or_from_slice_get}
use Rattle.std.proofs.lemmas.List.Elements.{All-get_or}
use Rattle.wire_msg.specs.declared.outputs.Post.{Post}
use Rattle.wire_msg.specs.Lawful.{IsLawful, AreLawful}

pub lawful_at : (posts : List Post) (n : ℕ) (post : Post) → slice_get posts n ≡ Some post → AreLawful posts → IsLawful post.message
lawful_at posts n post at lawful =
    let same : get_or posts n post ≡ post = get_or_from_slice_get posts n post post at in
    subst (λ (p : Post). IsLawful p.message) same (All-get_or (λ (p : Post). IsLawful p.message) posts n post (slice_get_within posts n post at) lawful)

pub lawful_found : (posts : List Post) (n : ℕ) (found : Option Post) → found ≡ slice_get posts n → AreLawful posts → IfSome found (λ p. IsLawful p.message)
lawful_found posts n None is lawful = tt
lawful_found posts n (Some post) is lawful = lawful_at posts n post (sym is) lawful
