-- The layout of a program shows the program.
use Rattle.sk_print_laws.specs.ProgramsShown.{ProgramsShown}
use Rattle.sk_print_laws.proofs.TextReads.{text_reads}
use Rattle.sk_print_laws.proofs.TreePlaced.{tree_placed_again}
use Rattle.sk_print_laws.proofs.Small.{numbers_are_small}
use Rattle.sk_print_laws.proofs.StmtsReadable.{programs_are_readable}
use Rattle.sk_print_laws.proofs.TreeAgain.{trees_mean_again}

pub programs_shown : ProgramsShown
programs_shown bounds prog narrow typed fits =
    let small = numbers_are_small bounds typed.tree prog narrow typed.types in
    let readable = programs_are_readable bounds prog typed in
    let placed = tree_placed_again bounds typed.tree prog typed.placed typed.types in
    let r = text_reads prog fits small readable placed in
    let m = trees_mean_again bounds typed.tree prog typed.types r.tree r.same in
    record { tokens = r.tokens; lexed = r.lexed; tree = r.tree; reads = r.reads; typed = m.0; types = m.1; same = m.2 }
