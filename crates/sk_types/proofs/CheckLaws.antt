-- What a tree becomes is what it means.
use Rattle.std.proofs.Common.{◌≡◌, Option, Some, None}
use Rattle.sk_base.specs.declared.bounds.Bounds.{Bounds}
use Rattle.sk_tree.specs.declared.item.Tree.{Tree}
use Rattle.sk_prog.specs.declared.prog.Prog.{Prog}
use Rattle.sk_types_rules.specs.Types.{Types}
use Rattle.sk_types_laws.specs.declared.fault.Typing.{Typing}
use Rattle.sk_types_laws.specs.declared.fault.Typing.TheVariants.{Fault, Memory}
use Rattle.sk_types_laws.specs.Whole.{prog_of}
use Rattle.sk_types_laws.proofs.WholeComplete.{whole}
use Rattle.sk_types_names.specs.Gives.{Fails, IsMemory}
use Rattle.sk_types.specs.Tops.{IsFault}

pub is_meant : (bounds : Bounds) (tree : Tree) (prog : Prog) → prog_of bounds tree ≡ Some prog → Types tree bounds prog
is_meant bounds tree prog h = (whole bounds tree prog).0 h

pub made_once : (bounds : Bounds) (tree : Tree) (made prog : Prog) → prog_of bounds tree ≡ Some made → Types tree bounds prog → made ≡ prog
made_once bounds tree made prog h m = let e : prog_of bounds tree ≡ Some prog = (whole bounds tree prog).1 m in cc

not_none : (o : Option Prog) (prog : Prog) → o ≡ None → o ≡ Some prog → ⊥
not_none o prog h e = cc

pub only_memory : (bounds : Bounds) (tree : Tree) (why : Typing) (prog : Prog) → Fails why (prog_of bounds tree) → Types tree bounds prog → IsMemory why
only_memory bounds tree Memory prog h m = tt
only_memory bounds tree (Fault f) prog h m = not_none (prog_of bounds tree) prog h ((whole bounds tree prog).1 m)

pub no_program : (bounds : Bounds) (tree : Tree) (why : Typing) (prog : Prog) → Fails why (prog_of bounds tree) → IsFault why → Types tree bounds prog → ⊥
no_program bounds tree Memory prog h is m = is
no_program bounds tree (Fault f) prog h is m = not_none (prog_of bounds tree) prog h ((whole bounds tree prog).1 m)
