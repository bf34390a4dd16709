-- What statements become by one trimmer.
use Rattle.std.specs.Prelude.{Bool, true, false, List, Option}
use Rattle.sk_prog.specs.declared.expr.PExpr.{PExpr}
use Rattle.sk_prog.specs.declared.stmt.PStmt.{PStmt}
use Rattle.sk_prune.specs.declared.constant.Constant.{Constant}
use Rattle.sk_prune.specs.declared.trimmer.Trimmer.{Trimmer}
use Rattle.sk_prune.specs.Constants.{constant}
use Rattle.sk_prune.specs.Trimmed.{Trimmed, trim}

-- as a body, or among the statements of a block
abbrev pub placed : Bool → Trimmed → List PStmt
placed true t = t.inside
placed false t = t.among

abbrev pub trim_of : Trimmer → PStmt → Trimmed
trim_of t = trim t.constants.consts.now t.constants.width

abbrev pub constant_of : Trimmer → PExpr → Option Constant
constant_of t = constant t.constants.consts.now t.constants.width
