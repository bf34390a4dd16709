use Rattle.std.proofs.Common.{◌≡◌, ◌≤◌, arith, ap, length}
use Rattle.sk_dag.specs.Graph.{WordSort}
use Rattle.sk_dag.proofs.EvalLemmas.{Keeps-trans}
use Rattle.sk_arr.proofs.Standing.{Stands-keeps, AllStand-keeps, parts_stand}
use Rattle.sk_sym_stores.proofs.Replacing.{words_keep, first_word, more_words, none_more, no_index, replaced_more, replaced_last, replaced_nothing}
use Rattle.sk_sym_stores.proofs.replacement.+replaced.Goals as goal

pub element_at-requires-clause-list : goal.element_at-requires-clause-list
element_at-requires-clause-list t c = parts_stand c.requires.whole c.in-Array.is

pub replaced-requires : goal.replaced-requires
replaced-requires t c =
    let old = c.in_ok-old.ensures in
    let some : 1 ≤ length c.in-Some.first.more.now = grind arith in
    (omega (arith, ap length c.in-Some.ensures.front), (some, (words_keep old.keeps (more_words c.in-Some.ensures c.requires.indexes), (old.read.stands, Stands-keeps old.keeps c.requires.part))))

pub with_element-requires-2-clause-index : goal.with_element-requires-2-clause-index
with_element-requires-2-clause-index t c = (Keeps-trans c.in_ok-old.ensures.keeps c.in_ok-new.ensures.keeps).sorts _ WordSort (first_word c.in-Some.ensures c.requires.indexes)

pub with_element-requires-2-clause-list : goal.with_element-requires-2-clause-list
with_element-requires-2-clause-list t c = AllStand-keeps (Keeps-trans c.in_ok-old.ensures.keeps c.in_ok-new.ensures.keeps) (parts_stand c.requires.whole c.in-Array.is)

pub returns-clause-keeps : goal.returns-clause-keeps
returns-clause-keeps t c = Keeps-trans c.in_ok-old.ensures.keeps (Keeps-trans c.in_ok-new.ensures.keeps (Keeps-trans c.in_ok-made.ensures.keeps c.in_ok-fails.ensures.keeps))

pub returns-clause-replaced : goal.returns-clause-replaced
returns-clause-replaced t c =
    let old = c.in_ok-old.ensures in
    let new = c.in_ok-new.ensures in
    let made = c.in_ok-made.ensures in
    let fails = c.in_ok-fails.ensures in
    replaced_more c.in-Some.ensures c.in-Array.is old.read new.keeps new.replaced made.keeps made.element fails.keeps fails.there fails.value

pub with_element-requires-clause-list : goal.with_element-requires-clause-list
with_element-requires-clause-list t c = parts_stand c.requires.whole c.in-Array.is

pub returns-then-is_empty-clause-replaced : goal.returns-then-is_empty-clause-replaced
returns-then-is_empty-clause-replaced t c =
    let none : length c.in-Some.first.more.now ≡ 0 = grind arith in
    replaced_last c.in-Some.ensures (none_more c.in-Some.first.more.now none) c.in-Array.is c.in_ok-last.ensures.element

pub unreachable-requires : goal.unreachable-requires
unreachable-requires t c = no_index c.requires.some c.in_default.ensures

pub returns-in_default-whole-clause-replaced : goal.returns-in_default-whole-clause-replaced
returns-in_default-whole-clause-replaced t c = replaced_nothing c.in-Some.ensures c.in_default-whole.not-Array c.in_ok-none.ensures.unchanged
