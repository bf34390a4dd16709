-- Constant expressions: numbers, names of constants that stand earlier, parentheses, `+`, `-` and `*`.
use Rattle.std.specs.Prelude.{ℕ, ◌^◌, ℤ, pos, negsuc, neg_ℤ, ◌+ℤ◌, ◌-ℤ◌, ◌*ℤ◌, int_le, Bool, ◌&&◌, List, [], ◌∷◌, Option, Some, None, if◌then◌else◌}
use Rattle.std.specs.Str.{bytes_eq}
use Rattle.sk_base.specs.declared.bounds.Bounds.{Bounds}
use Rattle.sk_tree.specs.declared.token.Mark.{Mark}
use Rattle.sk_tree.specs.declared.token.Mark.TheVariants as mark
use Rattle.sk_tree.specs.declared.expr.Expr.{Expr}
use Rattle.sk_tree.specs.declared.expr.EForm.TheOpen as E
use Rattle.sk_tree.specs.declared.expr.EForm.TheFolds.{fold-Expr}
use Rattle.sk_types_rules.specs.declared.scope.Variable.{Variable}
use Rattle.sk_types_rules.specs.declared.scope.Place.{Place}
use Rattle.sk_types_rules.specs.Rules.{◌>>=◌, only_if, in_range}
use Rattle.sk_types_rules.specs.Scope.{lookup, Known, Context}

-- the number of a constant of this name that stands earlier
abbrev pub number_known : List Known → List ℕ → Option ℤ
number_known [] x = None
number_known (k ∷ ks) x = if bytes_eq k.name x then Some (pos k.number) else number_known ks x

-- A variable hides a constant.
abbrev pub number_named : Option Place → List Known → List ℕ → Option ℤ
number_named (Some v) known x = None
number_named None known x = number_known known x

-- the value of each expression inside is from -2^62 to 2^62
abbrev pub is_near : ℤ → Bool
is_near z = int_le (neg_ℤ (pos (2 ^ 62))) z && int_le z (pos (2 ^ 62))

abbrev pub near : ℤ → Option ℤ
near z = only_if (is_near z) z

abbrev pub computed : Mark → ℤ → ℤ → Option ℤ
computed mark.Plus a b = near (a +ℤ b)
computed mark.Minus a b = near (a -ℤ b)
computed mark.Star a b = near (a *ℤ b)
computed _ a b = None

module _ (context : Context) (scope : List Variable) where
  abbrev pub eform_number : E.EForm-F (Option ℤ) (Option ℤ) (Unit {0}) → Option ℤ
  eform_number (E.Number n) = only_if (in_range context.bounds n) (pos n)
  eform_number (E.Word x) = number_named (lookup scope x) context.known x
  eform_number (E.Paren a) = a
  eform_number (E.Binary m a b) = a >>= λ x. b >>= λ y. computed m x y
  eform_number E.True = None
  eform_number E.False = None
  eform_number E.Null = None
  eform_number (E.Hole n) = None
  eform_number (E.Pattern pattern strings) = None
  eform_number (E.Call x args) = None
  eform_number (E.New x fields) = None
  eform_number (E.Braces es) = None
  eform_number (E.Member a x) = None
  eform_number (E.Index a i) = None
  eform_number (E.Slice a i n) = None
  eform_number (E.Unary m a) = None
  eform_number (E.Cond c a b) = None

  -- the whole number of an expression that is constant
  abbrev pub whole_number : Expr → Option ℤ
  whole_number = fold-Expr (Option ℤ) (Option ℤ) (Unit {0}) eform_number (λ x. x.form) (λ x. tt)

abbrev pub natural : Bounds → ℤ → Option ℕ
natural bounds (pos n) = only_if (in_range bounds n) n
natural bounds (negsuc n) = None

-- The number of a constant expression: its own value is from 0 to 2^(W - 1) - 1.
abbrev pub constant_number : Context → List Variable → Expr → Option ℕ
constant_number context scope e = whole_number context scope e >>= natural context.bounds
