-- Each expression does the same on both sides.
use Rattle.sk_base.specs.declared.bounds.Bounds.{Bounds}
use Rattle.sk_prog.specs.declared.expr.PExpr.{PExpr}
use Rattle.sk_prog.specs.declared.expr.PField.{PField}
use Rattle.sk_prog.specs.declared.prog.Prog.{Prog}
use Rattle.std.proofs.Common.{List}
use Rattle.sk_types_rules.specs.Scope.{Known}
use Rattle.sk_model.specs.Eval as eval
use Rattle.sk_model.proofs.Induction.{ExprCases, expr_ind}
use Rattle.sk_adt.specs.declared.algebraic.Algebraic.{Algebraic}
use Rattle.sk_adt_records.specs.Eval.{Calls}
use Rattle.sk_adt_record_laws.specs.Laws.{TagsAreIntegers}
use Rattle.sk_adt_record_laws.proofs.Fine.{At}
use Rattle.sk_adt_record_laws.proofs.Forms.{case_true, case_false, case_null, case_const, case_number, case_hole, case_pattern, case_var, case_paren, case_unary, case_to_int, case_pad, case_index, case_slice, case_cond}
use Rattle.sk_adt_record_laws.proofs.Fields.{case_member, case_binary}
use Rattle.sk_adt_record_laws.proofs.Rows.{CallsAlike, case_braces, case_call, case_new}

module _ (types : List Algebraic) (prog : Prog) (bounds : Bounds) (tags_are : TagsAreIntegers types prog) (known : List Known) (call : eval.Calls) (later : Calls) (calls : CallsAlike types prog call later) where
  abbrev Now : PExpr → Type 0
  Now = At types prog bounds known call later

  abbrev NowField : PField → Type 0
  NowField x = Now x.value

  cases : ExprCases Now NowField
  cases = record {
    field = λ k e q. q;
    number = case_number types prog bounds known call later;
    truth = case_true types prog bounds known call later;
    falsity = case_false types prog bounds known call later;
    null = case_null types prog bounds known call later;
    var = case_var types prog bounds known call later;
    const = case_const types prog bounds known call later;
    hole = case_hole types prog bounds known call later;
    pattern = λ s t es q. case_pattern types prog bounds known call later s t es;
    paren = case_paren types prog bounds known call later;
    call = case_call types prog bounds tags_are known call later calls;
    new = case_new types prog bounds tags_are known call later calls;
    braces = case_braces types prog bounds tags_are known call later calls;
    member = case_member types prog bounds tags_are known call later;
    index = case_index types prog bounds known call later;
    slice = case_slice types prog bounds known call later;
    unary = case_unary types prog bounds known call later;
    binary = λ s t o a b q r. case_binary types prog bounds tags_are known call later s t a b q r o;
    cond = case_cond types prog bounds known call later;
    to_int = case_to_int types prog bounds known call later;
    pad = case_pad types prog bounds known call later;
  }

  pub fine : (e : PExpr) → Now e
  fine = expr_ind Now NowField cases
