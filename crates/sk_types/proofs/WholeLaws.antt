-- What a whole tree becomes, step by step.
use Rattle.std.proofs.Common.{◌≡◌, List, [], Bool, true, false, Option, Some, None, sym, ap, ◌∙◌}
use Rattle.std.specs.Prelude.{not, ◌||◌, if◌then◌else◌}
use Rattle.sk_base.specs.declared.bounds.Bounds.{Bounds}
use Rattle.sk_tree.specs.declared.item.Item.{Item}
use Rattle.sk_tree.specs.declared.item.Tree.{Tree}
use Rattle.sk_prog.specs.declared.prog.Prog.{Prog}
use Rattle.sk_prog.specs.declared.prog.StructDef.{StructDef}
use Rattle.sk_types_rules.specs.Rules.{◌>>=◌, only_if}
use Rattle.sk_types_rules.specs.Scope.{Top, all_distinct, top_names}
use Rattle.sk_types_rules.specs.Types.{has_generator, names_free}
use Rattle.sk_types_laws.specs.declared.fault.Typing.{Typing}
use Rattle.sk_types_laws.specs.declared.fault.Typing.TheVariants.{Fault, Memory}
use Rattle.sk_types_names.specs.Gives.{Fails}
use Rattle.sk_types_laws.specs.Whole.{Bodies, named_top, typed_top, bodies_of, may_keep_names, prog_in, items_of, prog_of}
use Rattle.sk_types_rules.specs.Plain.{plain, steps_are_targets}

abbrev whole_of : List StructDef → Bodies → Prog
whole_of ss b = record { structs = ss; consts = b.consts; funs = b.funs }

-- the program of items whose bodies are known
pub prog_kept : (bounds : Bounds) (top : Top) (is : List Item) (b : Bodies) (ss : List StructDef) (k : Bool) → bodies_of bounds top [] is ≡ Some b → ss ≡ top.structs → (not (has_generator (whole_of ss b)) || names_free (whole_of ss b)) ≡ k → prog_in bounds top is ≡ only_if k (whole_of ss b)
prog_kept bounds top is b ss k h e t =
    ap (λ o. o >>= λ (b : Bodies). may_keep_names (whole_of top.structs b)) h
    ∙ ap (λ ss. only_if (not (has_generator (whole_of ss b)) || names_free (whole_of ss b)) (whole_of ss b)) (sym e)
    ∙ ap (λ k. only_if k (whole_of ss b)) t

-- the program of items whose names are known
pub items_named : (bounds : Bounds) (is : List Item) (names : Top) (k : Bool) → names ≡ named_top is → all_distinct (top_names names) ≡ k → items_of bounds is ≡ (if k then (typed_top bounds names [] is >>= λ top. prog_in bounds top is) else None)
items_named bounds is names k h t =
    ap (λ (n : Top). if all_distinct (top_names n) then (typed_top bounds n [] is >>= λ top. prog_in bounds top is) else None) (sym h)
    ∙ ap (λ b. if b then (typed_top bounds names [] is >>= λ top. prog_in bounds top is) else None) t

pub fails_as : {A : Type 0} (why : Typing) (o o' : Option A) → o ≡ o' → Fails why o' → Fails why o
fails_as Memory o o' e h = tt
fails_as (Fault f) o o' e h = e ∙ h

-- a tree with a step that may not be evaluated twice
pub tree_refused : (bounds : Bounds) (tree : Tree) → steps_are_targets tree ≡ false → prog_of bounds tree ≡ None
unfolding prog_of
tree_refused bounds tree h = ap (λ b. if b then items_of bounds (plain tree).items else None) h

-- a tree whose plain form is known
pub tree_plain : (bounds : Bounds) (tree made : Tree) (is : List Item) → steps_are_targets tree ≡ true → made ≡ plain tree → is ≡ made.items → prog_of bounds tree ≡ items_of bounds is
unfolding prog_of
tree_plain bounds tree made is h e k =
    ap (λ b. if b then items_of bounds (plain tree).items else None) h
    ∙ ap (λ (t : Tree). items_of bounds t.items) (sym e)
    ∙ ap (items_of bounds) (sym k)
