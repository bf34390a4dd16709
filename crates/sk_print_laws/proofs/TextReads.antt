-- The text of a program reads as the printed tree, spans aside.
use Rattle.std.proofs.Common.{◌∙◌}
use Rattle.sk_print_laws.specs.Printed.{printed}
use Rattle.sk_print_laws.specs.ReadsAs.{TextReads}
use Rattle.sk_print_laws.proofs.Items.{text_tells}
use Rattle.sk_print_laws.proofs.ItemsRead.{tokens_read}
use Rattle.sk_print_laws.proofs.Placed.{placed_alike}

pub text_reads : TextReads
text_reads prog fits small readable placed =
    let t = text_tells prog fits small in
    let r = tokens_read prog readable t.0 t.2 in
    record { tokens = t.0; lexed = t.1; tree = r.0; reads = record { spelt = r.1; placed = placed_alike r.0 (printed prog) r.2 ∙ placed }; same = r.2 }
