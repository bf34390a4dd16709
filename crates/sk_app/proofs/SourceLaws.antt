-- What follows for a line that reads its source from what it does for the text.
use Rattle.std.proofs.Common.{◌≡◌, ℕ, ◌≤◌, ◌<◌, Bool, true, false, List, Option, Some, None, length, sym, ap, subst, ◌∙◌, arith}
use Rattle.std.specs.Prelude.{IfSome}
use Rattle.std.proofs.lemmas.Bool.{false≢true}
use Rattle.sk_base.specs.Stream.{Rose}
use Rattle.sk_front.specs.Texts.{most_bytes}
use Rattle.sk_app.specs.declared.ending.Ending.{Ending}
use Rattle.sk_app.specs.declared.ending.Ending.TheVariants as ending
use Rattle.sk_app.specs.Call.{Effect}
use Rattle.sk_app.specs.Effects.{TakesSource, failed, long, wanting, whole}

-- two endings differ where a test does
pub differ : {A : Type 0} (test : Ending → Bool) (x y : Ending) → test x ≡ false → test y ≡ true → x ≡ y → A
differ test x y a b e = absurd (false≢true (sym a ∙ ap test e ∙ b))

pub every : (left : Option (List ℕ)) (P : List ℕ → Type 0) → ((text : List ℕ) → P text) → IfSome left P
every None P h = tt
every (Some text) P h = h text

pub mapped : (left : Option (List ℕ)) (P Q : List ℕ → Type 0) → ((text : List ℕ) → P text → Q text) → IfSome left P → IfSome left Q
mapped None P Q h k = tt
mapped (Some text) P Q h k = h text k

pub too_long : {A : Type 0} (text : List ℕ) → length text ≤ most_bytes → most_bytes < length text → A
too_long text short over = absurd (omega (arith, short, over))

module _ (most : ℕ) (Does : List ℕ → Type 0) (r : Ending) (f : Effect) where
  -- of the text that the source had left
  pub data Came (text : List ℕ) : Type 0 where
    came_failed : r ≡ ending.ReadFault → Rose f.read_faults_old f.read_faults_new → Came text
    came_long : r ≡ ending.TooLong → most < length text → Came text
    came_wanting : r ≡ ending.Memory → Came text
    came_whole : length text ≤ most → Does text → Came text

  pub came : TakesSource most Does r f → IfSome f.left_old Came
  came (failed e rose same) = every f.left_old Came (λ text. came_failed e rose)
  came (long e l same) = mapped f.left_old (λ text. most < length text) Came (λ text h. came_long e h) l
  came (wanting e same) = every f.left_old Came (λ text. came_wanting e)
  came (whole text w x) = mapped f.left_old (λ left. left ≡ text) Came (λ left h. subst Came (sym h) (came_whole w.short x)) w.whole

  pub told_of : (P : List ℕ → Type 0) → ((text : List ℕ) → Came text → P text) → TakesSource most Does r f → IfSome f.left_old P
  told_of P k s = mapped f.left_old Came P k (came s)
