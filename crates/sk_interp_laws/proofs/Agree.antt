-- What is done without steps, with one log and with another: a step of a run, and what is recorded of it in logs of which the one is made
-- of the other.
use Rattle.std.proofs.Common.{◌≡◌, refl, ap, ◌∙◌}
use Rattle.sk_base.specs.declared.span.Span.{Span}
use Rattle.sk_model.specs.Step.{State, Comp}
use Rattle.sk_model.specs.Step as plain
use Rattle.sk_interp_laws.specs.declared.step.Step.{Step}
use Rattle.sk_interp_laws.specs.Recording.{Recorded, Going, Goes, Fails, Skips, Traced, and_then, pure, fail, skip, lifted, lift, tell}

module _ {L M : Type 0} (h : L → M) where
  abbrev pub carry : Recorded L → Recorded M
  carry r = record { memory = r.memory; log = h r.log }

  abbrev pub carried : {A : Type 0} → Going L A → Going M A
  carried (Goes a r) = Goes a (carry r)
  carried (Fails span log) = Fails span (h log)
  carried (Skips span log) = Skips span (h log)

abbrev pub without : {L A : Type 0} → Going L A → plain.Step A
without (Goes a r) = plain.Goes a r.memory
without (Fails span log) = plain.Fails span
without (Skips span log) = plain.Skips span

-- without the log it is done in the run, and with the other log it is done in the other
pub record Agrees {L M : Type 0} (h : L → M) {A : Type 0} (m : Comp A) (t : Traced L A) (u : Traced M A) : Type 0 where
  pub run : (r : Recorded L) → without (t r) ≡ m r.memory
  pub logs : (r : Recorded L) → carried h (t r) ≡ u (carry h r)

lift_run : {L A : Type 0} (x : plain.Step A) (log : L) → without (lifted x log) ≡ x
lift_run (plain.Goes a s) log = refl
lift_run (plain.Fails span) log = refl
lift_run (plain.Skips span) log = refl

module _ {L M : Type 0} (h : L → M) where
  lift_logs : {A : Type 0} (x : plain.Step A) (log : L) → carried h (lifted x log) ≡ lifted x (h log)
  lift_logs (plain.Goes a s) log = refl
  lift_logs (plain.Fails span) log = refl
  lift_logs (plain.Skips span) log = refl

  pub lifts : {A : Type 0} (m : Comp A) → Agrees h m (lift m) (lift m)
  lifts m = record { run = λ r. lift_run (m r.memory) r.log; logs = λ r. lift_logs (m r.memory) r.log }

  pub pures : {A : Type 0} (a : A) → Agrees h (plain.pure a) (pure a) (pure a)
  pures a = record { run = λ r. refl; logs = λ r. refl }

  pub fails : {A : Type 0} (span : Span) → Agrees h {A = A} (plain.fail span) (fail span) (fail span)
  fails span = record { run = λ r. refl; logs = λ r. refl }

  pub skips : {A : Type 0} (span : Span) → Agrees h {A = A} (plain.skip span) (skip span) (skip span)
  skips span = record { run = λ r. refl; logs = λ r. refl }

  pub tells : (f : L → Step → L) (g : M → Step → M) → ((log : L) (step : Step) → h (f log step) ≡ g (h log) step) → (step : Step) → Agrees h (plain.pure tt) (tell f step) (tell g step)
  tells f g follows step = record { run = λ r. refl; logs = λ r. ap (λ log. Goes tt (record { memory = r.memory; log = log })) (follows r.log step) }

  module _ {A B : Type 0} (k : A → Comp B) (l : A → Traced L B) (n : A → Traced M B) where
    pub then_run : (x : Going L A) (y : plain.Step A) → without x ≡ y → ((a : A) (r : Recorded L) → without (l a r) ≡ k a r.memory) → without (and_then x l) ≡ plain.and_then y k
    then_run (Goes a r) y e each = each a r ∙ ap (λ z. plain.and_then z k) e
    then_run (Fails span log) y e each = ap (λ z. plain.and_then z k) e
    then_run (Skips span log) y e each = ap (λ z. plain.and_then z k) e

    pub then_logs : (x : Going L A) (y : Going M A) → carried h x ≡ y → ((a : A) (r : Recorded L) → carried h (l a r) ≡ n a (carry h r)) → carried h (and_then x l) ≡ and_then y n
    then_logs (Goes a r) y e each = each a r ∙ ap (λ z. and_then z n) e
    then_logs (Fails span log) y e each = ap (λ z. and_then z n) e
    then_logs (Skips span log) y e each = ap (λ z. and_then z n) e

    -- one after the other
    pub thens : {m : Comp A} {t : Traced L A} {u : Traced M A} → Agrees h m t u → ((a : A) → Agrees h (k a) (l a) (n a)) → Agrees h (λ s. plain.and_then (m s) k) (λ r. and_then (t r) l) (λ r. and_then (u r) n)
    thens {m = m} {t = t} {u = u} first rest = record {
      run = λ r. then_run (t r) (m r.memory) (first.run r) (λ a end. (rest a).run end);
      logs = λ r. then_logs (t r) (u (carry h r)) (first.logs r) (λ a end. (rest a).logs end);
    }
