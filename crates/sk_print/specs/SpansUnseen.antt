-- What the layout says of spans: nothing.
use Rattle.std.specs.Prelude.{◌≡◌}
use Rattle.sk_prog.specs.declared.prog.Prog.{Prog}
use Rattle.sk_prog.specs.Spanless.{spanless}
use Rattle.sk_print.specs.Layout.{layout}

-- Two programs that differ in spans alone have one layout.
abbrev pub SpansUnseen : Type 0
SpansUnseen = (p q : Prog) → spanless p ≡ spanless q → layout p ≡ layout q
