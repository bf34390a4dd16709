-- Whether all names are free, row by row.
use Rattle.std.proofs.Common.{◌≡◌, List, [], ◌∷◌, ◌++◌, Bool, true, false, refl, sym, ap, ◌∙◌}
use Rattle.std.specs.Prelude.{map, ◌&&◌}
use Rattle.std.specs.List.{list_all}
use Rattle.sk_prog.specs.declared.prog.Prog.{Prog}
use Rattle.sk_prog.specs.declared.prog.Fun.{Fun}
use Rattle.sk_prog.specs.declared.prog.ConstDef.{ConstDef}
use Rattle.sk_prog.specs.declared.prog.StructDef.{StructDef}
use Rattle.sk_types_rules.specs.Scope.{Signature, signature_of}
use Rattle.sk_types_rules.specs.Types.{is_free, fun_free, struct_free, names_free}

all_append : {X : Type 0} (p : X → Bool) (xs ys : List X) → list_all p (xs ++ ys) ≡ (list_all p xs && list_all p ys)
all_append p [] ys = refl
all_append p (x ∷ xs) ys = ap (λ b. p x && b) (all_append p xs ys) ∙ go (p x) (list_all p xs) (list_all p ys)
  where
    go : (a b c : Bool) → (a && (b && c)) ≡ ((a && b) && c)
    go true b c = refl
    go false b c = refl

all_map : {X Y : Type 0} (p : Y → Bool) (f : X → Y) (xs : List X) → list_all p (map f xs) ≡ list_all (λ x. p (f x)) xs
all_map p f [] = refl
all_map p f (x ∷ xs) = ap (λ b. p (f x) && b) (all_map p f xs)

all_both : {X : Type 0} (p q : X → Bool) (xs : List X) → list_all (λ x. p x && q x) xs ≡ (list_all p xs && list_all q xs)
all_both p q [] = refl
all_both p q (x ∷ xs) = ap (λ b. (p x && q x) && b) (all_both p q xs) ∙ go (p x) (q x) (list_all p xs) (list_all q xs)
  where
    go : (a b c d : Bool) → ((a && b) && (c && d)) ≡ ((a && c) && (b && d))
    go true true c d = refl
    go true false true d = refl
    go true false false d = refl
    go false b c d = refl

shuffle : (a s c f g : Bool) → ((a && s) && (c && (f && g))) ≡ ((a && (c && f)) && (s && g))
shuffle true true true f g = refl
shuffle true true false f g = refl
shuffle true false true true g = refl
shuffle true false true false g = refl
shuffle true false false f g = refl
shuffle false s c f g = refl

pub free_by_rows : (prog : Prog) → names_free prog ≡ (list_all (λ (d : StructDef). is_free d.name && struct_free d) prog.structs && (list_all (λ (c : ConstDef). is_free c.name) prog.consts && list_all (λ (f : Fun). is_free f.name && fun_free f) prog.funs))
free_by_rows prog =
    let structs = all_map is_free (λ (d : StructDef). d.name) prog.structs in
    let consts = all_map is_free (λ (c : ConstDef). c.name) prog.consts in
    let funs = all_map is_free (λ (s : Signature). s.name) (map signature_of prog.funs) ∙ all_map (λ (s : Signature). is_free s.name) signature_of prog.funs in
    let behind = all_append is_free (map (λ (c : ConstDef). c.name) prog.consts) (map (λ (s : Signature). s.name) (map signature_of prog.funs)) in
    let names = all_append is_free (map (λ (d : StructDef). d.name) prog.structs) (map (λ (c : ConstDef). c.name) prog.consts ++ map (λ (s : Signature). s.name) (map signature_of prog.funs)) in
    ap (λ b. b && (list_all struct_free prog.structs && list_all fun_free prog.funs)) (names ∙ (λ i. structs i && (behind ∙ (λ j. consts j && funs j)) i))
    ∙ sym (shuffle (list_all (λ (d : StructDef). is_free d.name) prog.structs) (list_all struct_free prog.structs) (list_all (λ (c : ConstDef). is_free c.name) prog.consts) (list_all (λ (f : Fun). is_free f.name) prog.funs) (list_all fun_free prog.funs))
    ∙ sym (λ i. all_both (λ (d : StructDef). is_free d.name) struct_free prog.structs i && (list_all (λ (c : ConstDef). is_free c.name) prog.consts && all_both (λ (f : Fun). is_free f.name) fun_free prog.funs i))
