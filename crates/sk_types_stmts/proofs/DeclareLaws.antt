-- A declaration whose type is none.
use Rattle.std.proofs.Common.{◌≡◌, ℕ, List, [], ◌∷◌, ◌++◌, length, Bool, true, false, Option, None, refl, ap}
use Rattle.std.specs.Prelude.{if◌then◌else◌}
use Rattle.sk_tree.specs.declared.stmt.Declared.{Declared}
use Rattle.sk_tree.specs.declared.item.TyTree.{TyTree}
use Rattle.sk_prog.specs.declared.stmt.PForm.{PForm}
use Rattle.sk_prog.specs.declared.stmt.PForm.TheVariants as act
use Rattle.sk_types_rules.specs.declared.scope.Variable.{Variable}
use Rattle.sk_types_rules.specs.Rules.{◌>>=◌}
use Rattle.sk_types_rules.specs.Scope.{Context, lookup, is_taken}
use Rattle.sk_types_rules.specs.Sorts.{written_type}
use Rattle.sk_types_laws.specs.declared.fault.Typing.{Typing}
use Rattle.sk_types_laws.specs.declared.fault.Typing.TheVariants.{Fault, Memory}
use Rattle.sk_types_laws.specs.Making.{Made, makes, any_value_at, declare}
use Rattle.sk_types_names.specs.Gives.{Fails}

either : (taken : Bool) (o : Option (Made PForm)) → o ≡ None → (if taken then None else o) ≡ None
either true o h = refl
either false o h = h

-- whether or not its name is taken
pub no_type : (context : Context) (from : ℕ) (scope : List Variable) (y : TyTree) (d : Declared) (why : Typing) → Fails why (written_type context scope y) → Fails why (declare context from scope y d)
no_type context from scope y d Memory h = tt
no_type context from scope y d (Fault f) h = either (is_taken from (lookup scope d.name)) _ (ap (λ o. o >>= λ t. any_value_at context scope t d.value >>= λ v. makes (act.Declare (length scope) d.name t v) (scope ++ record { name = d.name; ty = t } ∷ [])) h)
