-- Names at the top of an expansion.
use Rattle.std.specs.Prelude.{◌<◌, ◌^◌, ◌||◌, not, IsTrue}
use Rattle.sk_base.specs.declared.bounds.Bounds.{Bounds}
use Rattle.sk_prog.specs.declared.prog.Prog.{Prog}
use Rattle.sk_types_rules.specs.Scope.{all_distinct, top_of, top_names}
use Rattle.sk_types_rules.specs.Types.{has_generator, names_free}
use Rattle.sk_model.specs.Nodes.{nodes}
use Rattle.sk_model.specs.Expand.{expand}

-- Of a program whose names are distinct, and do not end as those of copies do where it has a generator, the
-- expansion has distinct names, unless it is of 2^64 nodes or more: numbers of copies are decimals of so many.
abbrev pub NamesStayDistinct : Type 0
NamesStayDistinct =
    (prog : Prog) (bounds : Bounds)
    → IsTrue (all_distinct (top_names (top_of prog))) → IsTrue (not (has_generator prog) || names_free prog)
    → nodes (expand prog bounds).prog < 2 ^ 64
    → IsTrue (all_distinct (top_names (top_of (expand prog bounds).prog)))
