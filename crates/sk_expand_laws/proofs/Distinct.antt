-- The names at the top of an expansion are distinct.
use Rattle.std.proofs.Common.{◌≡◌, ℕ, ◌+◌, ◌<◌, ◌≤◌, Bool, true, false, List, [], ◌∷◌, ◌++◌, length, refl, sym, ap, ◌∙◌, subst, arith}
use Rattle.std.specs.Prelude.{◌&&◌, ◌||◌, ◌^◌, not, map, if◌then◌else◌}
use Rattle.std.specs.List.{list_all, list_any}
use Rattle.std.specs.Str.{bytes_eq}
use Rattle.std.proofs.lemmas.Bool.{and_parts}
use Rattle.std.proofs.lemmas.List.Folds.{list_any-append}
use Rattle.sk_base.specs.declared.bounds.Bounds.{Bounds}
use Rattle.sk_prog.specs.declared.prog.FunKind.{FunKind}
use Rattle.sk_prog.specs.declared.prog.FunKind.TheVariants as kind
use Rattle.sk_prog.specs.declared.prog.StructDef.{StructDef}
use Rattle.sk_prog.specs.declared.prog.ConstDef.{ConstDef}
use Rattle.sk_prog.specs.declared.prog.Fun.{Fun}
use Rattle.sk_prog.specs.declared.prog.Prog.{Prog}
use Rattle.sk_types_rules.specs.Scope.{Signature, signature_of, all_distinct, top_of, top_names}
use Rattle.sk_types_rules.specs.Types.{is_free, struct_free, fun_free, has_generator, names_free}
use Rattle.sk_types_rules.specs.Types as T
use Rattle.sk_model.specs.Expand.{Walk, is_generator, copy_name, walk_funs, walk_fun, expand}
use Rattle.sk_expand_laws.specs.Copies.{AreCopies}
use Rattle.sk_expand_laws.specs.Names.{NamesStayDistinct}
use Rattle.sk_expand_laws.proofs.CopyNames.{free_other, copies_other}
use Rattle.sk_expand_laws.proofs.Copied.{copies_are_numbered}
use Rattle.sk_expand_laws.proofs.Few.{copies_are_few}
use Rattle.sk_expand_laws.proofs.Lists.{no_or, not_any, not_true, none_parts}
use Rattle.sk_expand_laws.proofs.Ordinary.{body_walk}

abbrev pub names : List Fun → List (List ℕ)
names fs = map (λ (s : Signature). s.name) (map signature_of fs)

names_append : (fs gs : List Fun) → names (fs ++ gs) ≡ names fs ++ names gs
names_append [] gs = refl
names_append (f ∷ fs) gs = ap (λ rest. f.name ∷ rest) (names_append fs gs)

-- x is none of these names
abbrev pub Out : List ℕ → List (List ℕ) → Type 0
Out x xs = list_any (bytes_eq x) xs ≡ false

out_append : (x : List ℕ) (xs ys : List (List ℕ)) → Out x xs → Out x ys → Out x (xs ++ ys)
out_append x xs ys h j = list_any-append (bytes_eq x) xs ys ∙ (λ i. h i || j i)

pub same_kind : (k : FunKind) → T.is_generator k ≡ is_generator k
same_kind kind.Plain = refl
same_kind kind.Harness = refl
same_kind kind.Generator = refl

module _ (bounds : Bounds) (funs all : List Fun) where
  abbrev Copies : ℕ → List Fun → Type 0
  Copies k cs = AreCopies bounds funs all k cs

  named : (x : List ℕ) (b : Bool) (y z : List ℕ) → y ≡ z → bytes_eq x z ≡ b → bytes_eq x y ≡ b
  named x b y z e h = ap (bytes_eq x) e ∙ h

  free_out : (x : List ℕ) → is_free x ≡ true → (cs : List Fun) (k : ℕ) → Copies k cs → k + length cs < 2 ^ 64 → Out x (names cs)
  free_out x free [] k a h = refl
  free_out x free (c ∷ cs) k a h =
      let n : k + 1 < 2 ^ 64 = omega (arith, h) in
      let m : (k + 1) + length cs < 2 ^ 64 = omega (arith, h) in
      let e = named x false c.name (copy_name a.0.generator.name (k + 1)) (ap (λ (f : Fun). f.name) a.0.is) (free_other x a.0.generator.name (k + 1) n free) in
      (λ i. e i || free_out x free cs (k + 1) a.1 m i)

  copy_out : (y : List ℕ) (j : ℕ) → j < 2 ^ 64 → (cs : List Fun) (k : ℕ) → j ≤ k → Copies k cs → k + length cs < 2 ^ 64 → Out (copy_name y j) (names cs)
  copy_out y j small [] k le a h = refl
  copy_out y j small (c ∷ cs) k le a h =
      let n : k + 1 < 2 ^ 64 = omega (arith, h) in
      let m : (k + 1) + length cs < 2 ^ 64 = omega (arith, h) in
      let less : j < k + 1 = omega (arith, le) in
      let e = named (copy_name y j) false c.name (copy_name a.0.generator.name (k + 1)) (ap (λ (f : Fun). f.name) a.0.is) (copies_other y a.0.generator.name j (k + 1) small n less) in
      (λ i. e i || copy_out y j small cs (k + 1) (omega (arith, le)) a.1 m i)

  pub copies_distinct : (cs : List Fun) (k : ℕ) → Copies k cs → k + length cs < 2 ^ 64 → all_distinct (names cs) ≡ true
  copies_distinct [] k a h = refl
  copies_distinct (c ∷ cs) k a h =
      let n : k + 1 < 2 ^ 64 = omega (arith, h) in
      let m : (k + 1) + length cs < 2 ^ 64 = omega (arith, h) in
      let e : c.name ≡ copy_name a.0.generator.name (k + 1) = ap (λ (f : Fun). f.name) a.0.is in
      let out : Out c.name (names cs) = subst (λ x. Out x (names cs)) (sym e) (copy_out a.0.generator.name (k + 1) n cs (k + 1) (omega arith) a.1 m) in
      (λ i. not (out i) && copies_distinct cs (k + 1) a.1 m i)

  -- without a generator there is no copy
  pub no_copies : list_any (λ (f : Fun). T.is_generator f.kind) funs ≡ false → (cs : List Fun) (k : ℕ) → Copies k cs → cs ≡ []
  no_copies none [] k a = refl
  no_copies none (c ∷ cs) k a =
      let r = a.0 in
      let e = sym (not_any (λ (f : Fun). T.is_generator f.kind) funs r.place r.generator r.there none) ∙ same_kind r.generator.kind ∙ r.kind in
      cc

  abbrev all_walked : List Fun → Walk (List Fun)
  all_walked = walk_funs bounds funs

  pub out_made : (x : List ℕ) (fs : List Fun) (k : ℕ) → Out x (names fs) → Out x (names (all_walked fs k).made)
  out_made x [] k h = refl
  out_made x (f ∷ fs) k h = by_kind (is_generator f.kind) (λ j. out_made x fs j (no_or (bytes_eq x f.name) (list_any (bytes_eq x) (names fs)) h).1)
    where
      by_kind : (b : Bool) → ((j : ℕ) → Out x (names (all_walked fs j).made)) → Out x (names ((if b then all_walked fs else walk_fun bounds funs f (all_walked fs)) k).made)
      by_kind true rest = rest k
      by_kind false rest =
          let here = (no_or (bytes_eq x f.name) (list_any (bytes_eq x) (names fs)) h).0 in
          let behind = rest (k + length (body_walk bounds funs all f k).copies) in
          (λ i. here i || behind i)

  -- names that are none of these
  abbrev pub Outs : List Fun → List (List ℕ) → Type 0
  Outs cs xs = list_all (λ x. not (list_any (bytes_eq x) (names cs))) xs ≡ true

  pub made_distinct : (cs : List Fun) → all_distinct (names cs) ≡ true → (fs : List Fun) (k : ℕ) → all_distinct (names fs) ≡ true → Outs cs (names fs) → all_distinct (names ((all_walked fs k).made ++ cs)) ≡ true
  made_distinct cs h [] k d out = h
  made_distinct cs h (f ∷ fs) k d out = by_kind (is_generator f.kind) (λ j. made_distinct cs h fs j a.1 o.1)
    where
      a : (not (list_any (bytes_eq f.name) (names fs)) ≡ true) × (all_distinct (names fs) ≡ true)
      a = and_parts (not (list_any (bytes_eq f.name) (names fs))) (all_distinct (names fs)) d

      o : (not (list_any (bytes_eq f.name) (names cs)) ≡ true) × Outs cs (names fs)
      o = and_parts (not (list_any (bytes_eq f.name) (names cs))) (list_all (λ x. not (list_any (bytes_eq x) (names cs))) (names fs)) out

      by_kind : (b : Bool) → ((j : ℕ) → all_distinct (names ((all_walked fs j).made ++ cs)) ≡ true) → all_distinct (names (((if b then all_walked fs else walk_fun bounds funs f (all_walked fs)) k).made ++ cs)) ≡ true
      by_kind true rest = rest k
      by_kind false rest =
          let j = k + length (body_walk bounds funs all f k).copies in
          let ordinary = out_made f.name fs j (not_true _ a.0) in
          let e : Out f.name (names ((all_walked fs j).made ++ cs)) = ap (list_any (bytes_eq f.name)) (names_append (all_walked fs j).made cs) ∙ out_append f.name (names (all_walked fs j).made) (names cs) ordinary (not_true _ o.0) in
          (λ i. not (e i) && rest j i)

-- Names in front of others stay distinct, where the others are changed.
front_distinct : (cs : List Fun) (xs ys zs : List (List ℕ)) → all_distinct (xs ++ ys) ≡ true → all_distinct zs ≡ true → list_all (λ x. not (list_any (bytes_eq x) (names cs))) xs ≡ true
    → ((x : List ℕ) → Out x ys → Out x (names cs) → Out x zs) → all_distinct (xs ++ zs) ≡ true
front_distinct cs [] ys zs d e o more = e
front_distinct cs (x ∷ xs) ys zs d e o more =
    let a = and_parts (not (list_any (bytes_eq x) (xs ++ ys))) (all_distinct (xs ++ ys)) d in
    let p = none_parts (bytes_eq x) xs ys (not_true _ a.0) in
    let b = and_parts (not (list_any (bytes_eq x) (names cs))) (list_all (λ x. not (list_any (bytes_eq x) (names cs))) xs) o in
    let out = out_append x xs zs p.0 (more x p.1 (not_true _ b.0)) in
    (λ i. not (out i) && front_distinct cs xs ys zs a.1 e b.1 more i)

all_parts : {X : Type 0} (test : X → Bool) (xs ys : List X) → list_all test (xs ++ ys) ≡ true → (list_all test xs ≡ true) × (list_all test ys ≡ true)
all_parts test [] ys h = (refl, h)
all_parts test (x ∷ xs) ys h =
    let a = and_parts (test x) (list_all test (xs ++ ys)) h in
    let r = all_parts test xs ys a.1 in
    ((λ i. a.0 i && r.0 i), r.1)

all_free : (bounds : Bounds) (funs all cs : List Fun) → AreCopies bounds funs all 0 cs → length cs < 2 ^ 64 → (xs : List (List ℕ)) → list_all is_free xs ≡ true → list_all (λ x. not (list_any (bytes_eq x) (names cs))) xs ≡ true
all_free bounds funs all cs a h [] f = refl
all_free bounds funs all cs a h (x ∷ xs) f =
    let p = and_parts (is_free x) (list_all is_free xs) f in
    let e = free_out bounds funs all x p.0 cs 0 a (omega (arith, h)) in
    (λ i. not (e i) && all_free bounds funs all cs a h xs p.1 i)

none_out : (xs : List (List ℕ)) → list_all (λ x. not (list_any (bytes_eq x) (names []))) xs ≡ true
none_out [] = refl
none_out (x ∷ xs) = none_out xs

pub outs : (prog : Prog) (bounds : Bounds) (all cs : List Fun) → AreCopies bounds prog.funs all 0 cs → length cs < 2 ^ 64 → (not (has_generator prog) || names_free prog) ≡ true → list_all (λ x. not (list_any (bytes_eq x) (names cs))) (top_names (top_of prog)) ≡ true
outs prog bounds all cs a h = go (has_generator prog) refl
  where
    go : (b : Bool) → has_generator prog ≡ b → (not b || names_free prog) ≡ true → list_all (λ x. not (list_any (bytes_eq x) (names cs))) (top_names (top_of prog)) ≡ true
    go true is free = all_free bounds prog.funs all cs a h (top_names (top_of prog)) (and_parts (list_all is_free (top_names (top_of prog))) (list_all struct_free prog.structs && list_all fun_free prog.funs) free).0
    go false is free = subst (λ cs. list_all (λ x. not (list_any (bytes_eq x) (names cs))) (top_names (top_of prog)) ≡ true) (sym (no_copies bounds prog.funs all is cs 0 a)) (none_out (top_names (top_of prog)))

rest_distinct : (xs ys : List (List ℕ)) → all_distinct (xs ++ ys) ≡ true → all_distinct ys ≡ true
rest_distinct [] ys d = d
rest_distinct (x ∷ xs) ys d = rest_distinct xs ys (and_parts (not (list_any (bytes_eq x) (xs ++ ys))) (all_distinct (xs ++ ys)) d).1

pub names_stay : NamesStayDistinct
unfolding expand
names_stay prog bounds d free h =
    let m = walk_funs bounds prog.funs prog.funs 0 in
    let ss = map (λ (d : StructDef). d.name) prog.structs in
    let ks = map (λ (c : ConstDef). c.name) prog.consts in
    let few = copies_are_few prog bounds in
    let a = copies_are_numbered prog bounds in
    let small : length m.copies < 2 ^ 64 = omega (arith, h, few) in
    let o = outs prog bounds m.copies m.copies a small free in
    let p = all_parts (λ x. not (list_any (bytes_eq x) (names m.copies))) ss (ks ++ names prog.funs) o in
    let q = all_parts (λ x. not (list_any (bytes_eq x) (names m.copies))) ks (names prog.funs) p.1 in
    let d1 = rest_distinct ss (ks ++ names prog.funs) d in
    let d2 = rest_distinct ks (names prog.funs) d1 in
    let funs = made_distinct bounds prog.funs m.copies m.copies (copies_distinct bounds prog.funs m.copies m.copies 0 a (omega (arith, small))) prog.funs 0 d2 q.1 in
    let more : (x : List ℕ) → Out x (names prog.funs) → Out x (names m.copies) → Out x (names (m.made ++ m.copies)) = λ x h j. ap (list_any (bytes_eq x)) (names_append m.made m.copies) ∙ out_append x (names m.made) (names m.copies) (out_made bounds prog.funs m.copies x prog.funs 0 h) j in
    let behind = front_distinct m.copies ks (names prog.funs) (names (m.made ++ m.copies)) d1 funs q.0 more in
    front_distinct m.copies ss (ks ++ names prog.funs) (ks ++ names (m.made ++ m.copies)) d behind p.0
    (λ x h j. let n = none_parts (bytes_eq x) ks (names prog.funs) h in out_append x ks (names (m.made ++ m.copies)) n.0 (more x n.1 j))
