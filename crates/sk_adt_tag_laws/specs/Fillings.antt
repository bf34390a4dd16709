-- What stays tagged: a program that is expanded, and an expansion that is filled.
use Rattle.std.specs.Prelude.{◌≡◌, ℕ, IsTrue, List, Some, slice_get}
use Rattle.std.specs.List.{list_all}
use Rattle.sk_base.specs.declared.bounds.Bounds.{Bounds}
use Rattle.sk_prog.specs.declared.prog.Fun.{Fun}
use Rattle.sk_prog.specs.declared.prog.Prog.{Prog}
use Rattle.sk_prog.specs.Fits.{prog_fits}
use Rattle.sk_types_rules.specs.WellTyped.{WellTyped}
use Rattle.sk_model.specs.declared.expanded.Choice.{Choice}
use Rattle.sk_model.specs.declared.expanded.Expanded.{Expanded}
use Rattle.sk_model.specs.Expand.{expand}
use Rattle.sk_model.specs.Fill.{fill}
use Rattle.sk_holes_laws.specs.Callees.{stmt_callees, is_ahead}
use Rattle.sk_adt.specs.declared.algebraic.Algebraic.{Algebraic}
use Rattle.sk_adt_tags.specs.Tags.{Tagged}

-- The expansion of a tagged program that keeps the rules of types and is well-formed is tagged. Two of these rules are needed: a call is of a function of the
-- program, so that what is called in its place has the same `ref` parameters; and the count of a repeat, which is not walked, is a number or a hole.
abbrev pub ExpansionsStayTagged : Type 0
ExpansionsStayTagged =
    (bounds : Bounds) (types : List Algebraic) (prog : Prog)
    → WellTyped prog bounds → IsTrue (prog_fits prog)
    → Tagged types prog → Tagged types (expand prog bounds).prog

-- Each call is of an ordinary function, or of a copy that stands behind the caller.
abbrev pub CallsAreAhead : Expanded → Type 0
CallsAreAhead x = (n : ℕ) (f : Fun) → slice_get x.prog.funs n ≡ Some f → IsTrue (list_all (stmt_callees (is_ahead x.ordinary n)) f.body)

-- What a tagged expansion becomes under a choice is tagged, also where the choice is not in range. Of what makes it an expansion only the order of its
-- functions is needed: by it each call that stands is of a function that stands, so that the filled call, with the new number, passes the same variables to
-- `ref` parameters.
abbrev pub FilledStayTagged : Type 0
FilledStayTagged = (types : List Algebraic) (x : Expanded) (choice : Choice) → CallsAreAhead x → Tagged types x.prog → Tagged types (fill x choice)

-- Each filling of a tagged program that keeps the rules of types and is well-formed is tagged.
abbrev pub FillingsStayTagged : Type 0
FillingsStayTagged =
    (bounds : Bounds) (types : List Algebraic) (prog : Prog) (choice : Choice)
    → WellTyped prog bounds → IsTrue (prog_fits prog)
    → Tagged types prog → Tagged types (fill (expand prog bounds) choice)
