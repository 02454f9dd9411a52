use Rattle.std.proofs.Common.{◌≡◌, [], Ok, refl, ap, ◌∙◌}
use Rattle.std.proofs.lemmas.Result.{IfOk-weaker}
use Rattle.world_text.specs.Records.{world_text}
use Rattle.world_text.specs.ReadWorld.{csv_says}
use Rattle.world_text.specs.Written.{written}
use Rattle.world_text.proofs.TextRead.{whole_text}
use Rattle.world_text.proofs.print.print_csv.Goals as goal

whole : (c : goal.After-into_bytes) → written c.print_members.new.text ≡ world_text c.args.world.now
whole c =
    let from = c.from_writer-text.ensures in
    let empty : written c.from_writer-text.result ≡ [] = rw (from.wtr, c.new-2.ensures.items, from.empty) refl in
    whole_text c.args.world.now c.printed_version-version.result c.from_writer-text.result c.print_version.new.text c.print_centres.new.text c.print_links.new.text c.print_sets.new.text c.print_members.new.text
    c.printed_version-version.ensures empty c.in_ok-print_version.ensures c.in_ok-print_centres.ensures c.in_ok-print_links.ensures c.in_ok-print_sets.ensures c.in_ok-print_members.ensures

pub returns-clause-text : goal.returns-clause-text
returns-clause-text c =
    IfOk-weaker c.into_bytes.result (λ bytes. bytes ≡ written c.print_members.new.text) (λ bytes. bytes ≡ world_text c.args.world.now) (λ bytes e. e ∙ whole c) c.into_bytes.ensures

pub returns-clause-read : goal.returns-clause-read
returns-clause-read c =
    IfOk-weaker c.into_bytes.result (λ bytes. bytes ≡ written c.print_members.new.text) (λ bytes. csv_says bytes ≡ Ok c.args.world.now)
    (λ bytes e. ap csv_says (e ∙ whole c) ∙ c.text_is_read.ensures) c.into_bytes.ensures
