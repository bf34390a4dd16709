-- Laws of the texts that certificates hold.
use Rattle.std.specs.Prelude.{ℕ, ◌≡◌, ◌++◌, Some, IsTrue, codes}
use Rattle.std.specs.Fmt.{decimal}
use Rattle.std.specs.List.{flat_map}
use Rattle.sk_prog.specs.declared.prog.Prog.{Prog}
use Rattle.sk_prog.specs.Fits.{prog_fits}
use Rattle.sk_print.specs.Layout.{layout}
use Rattle.sk_model.specs.declared.expanded.Choice.{Choice}
use Rattle.sk_cert.specs.Certificates.{IsProgramText, result_lines}

-- the layout of a well-formed program may stand in a certificate
abbrev pub LayoutsAreProgramTexts : Type 0
LayoutsAreProgramTexts = (prog : Prog) → IsTrue (prog_fits prog) → IsProgramText (layout prog)

-- the lines of a completion, each with its line feed: a mark, the value, and the values of the holes with a space before each
abbrev pub SameLines : Type 0
SameLines =
    (a : Choice) (value : ℕ)
    → result_lines (Some a) value ≡ codes "//@ completion\n//@ value " ++ decimal value ++ codes "\n//@ holes" ++ flat_map (λ n. codes " " ++ decimal n) a.values ++ codes "\n"
