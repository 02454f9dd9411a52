use Rattle.world_text.proofs.Members.{key_count-view}
use Rattle.world_text.proofs.toml_tables.has_known_keys.Goals as goal

pub returns : goal.returns
returns c =
    rw (
      c.len.ensures.len,
      c.count_at.ensures.count,
      c.count_at-2.ensures.count,
      c.count_at-3.ensures.count,
      c.count_at-4.ensures.count,
      c.count_at-5.ensures.count,
      c.word.ensures,
      c.word-2.ensures,
      c.word-3.ensures,
      c.word-4.ensures,
      key_count-view c.args.document.now.entries,
    )
