-- The laws of reading, from the laws of its readers.
use Rattle.std.proofs.Common.{◌≡◌, Bool, true, false, List, inl, inr, Some, None, refl, sym, ◌∙◌}
use Rattle.sk_tree.specs.declared.token.Token.{Token}
use Rattle.sk_tree.specs.declared.item.Tree.{Tree}
use Rattle.sk_tree.specs.Patterns.{patterns_of}
use Rattle.sk_tree.specs.Reads.{HasTooManyStrings, HasBadAlternative}
use Rattle.sk_parser_laws.specs.Faults.{no_faults, tally_of}
use Rattle.sk_parser_laws.specs.ItemReader.{tree_at}
use Rattle.sk_parser_laws.specs.Laws.{ReadsWithin, ReadsExactly, ReadsAsOne, TellsFaults}
use Rattle.sk_parser_laws.proofs.FaultLaws.{all_add}
use Rattle.sk_parser_laws.proofs.ItemSound.{tree_sound}
use Rattle.sk_parser_laws.proofs.ItemComplete.{tree_complete}

pub read_is : (ts : List Token) (tree : Tree) → tree_at ts ≡ Some tree → ReadsWithin ts tree
read_is ts tree e = let s = (tree_sound ts).each tree e in record { reads = s.0; within = s.1 }

pub same_tree : (ts : List Token) (a b : Tree) → tree_at ts ≡ Some a → ReadsWithin ts b → a ≡ b
same_tree ts a b e r = let same : Some a ≡ Some b = sym e ∙ tree_complete ts b r.reads r.within in cc

pub reads_none : (ts : List Token) (tree : Tree) → tree_at ts ≡ None → ReadsWithin ts tree → ⊥
reads_none ts tree e r = let bad : None ≡ Some tree = sym e ∙ tree_complete ts tree r.reads r.within in absurd (cc)

pub exact : ReadsExactly
exact ts tree = (read_is ts tree, λ r. tree_complete ts tree r.reads r.within)

pub one : ReadsAsOne
one ts a b r s = same_tree ts a b (tree_complete ts a r.reads r.within) s

off : {A : Type 0} → false ≡ true → A
off e = absurd (cc)

-- what is not false is true
by_false : (b : Bool) → (b ≡ false → ⊥) → b ≡ true
by_false true f = refl
by_false false f = absurd (f refl)

-- The tally is what the patterns of the tree have.
pub many_is : (tree : Tree) → (tally_of tree).too_many ≡ true → HasTooManyStrings tree
unfolding tally_of
many_is tree e = elim ((all_add no_faults (patterns_of tree)).many e) [ inl x ↦ off x | inr y ↦ y ]

pub few_is : (tree : Tree) → (tally_of tree).too_many ≡ false → HasTooManyStrings tree → ⊥
unfolding tally_of
few_is tree e = ((all_add no_faults (patterns_of tree)).not_many e).1

pub bad_is : (tree : Tree) → (tally_of tree).bad ≡ true → HasBadAlternative tree
unfolding tally_of
bad_is tree e = elim ((all_add no_faults (patterns_of tree)).bad e) [ inl x ↦ off x | inr y ↦ y ]

pub good_is : (tree : Tree) → (tally_of tree).too_many ≡ false → (tally_of tree).bad ≡ false → HasBadAlternative tree → ⊥
unfolding tally_of
good_is tree e f = ((all_add no_faults (patterns_of tree)).not_bad e f).1

pub told : TellsFaults
told tree = record {
  many = (many_is tree, λ h. by_false (tally_of tree).too_many (λ e. few_is tree e h));
  bad = λ few. (bad_is tree, λ h. by_false (tally_of tree).bad (λ e. good_is tree few e h));
}
