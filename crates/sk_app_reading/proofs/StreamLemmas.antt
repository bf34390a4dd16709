-- How parts of a text that were read or written come together.
use Rattle.std.proofs.Common.{ℕ, List, [], ◌++◌, ◌≡◌, ◌≤◌, ◌+◌, Option, Some, None, length, take, refl, sym, ap, ◌∙◌, arith}
use Rattle.std.specs.Prelude.{option_map}
use Rattle.std.proofs.lemmas.List.{append-nil, append_assoc, length-append}
use Rattle.sk_base.specs.Stream.{Counts, IsAppended}
use Rattle.sk_app_reading.specs.Streams.{Appends, TakesFew}
use Rattle.sk_app_reading.specs.ReadStep.{Loses}

-- what is written, and what is left of the bytes
pub record IsWriting (bytes rest : List ℕ) (old new : Option (List ℕ)) (faults_old faults_new spare : ℕ) : Type 0 where
  pub front : List ℕ
  pub split : bytes ≡ front ++ rest
  pub appends : Appends front old new
  pub count : faults_old ≤ faults_new
  pub room : length rest ≤ spare

pub appends-nil : (old : Option (List ℕ)) → Appends [] old old
appends-nil None = refl
appends-nil (Some held) = rw (append-nil held) refl

pub appends-more : (a b : List ℕ) (old mid new : Option (List ℕ)) → Appends a old mid → Appends b mid new → Appends (a ++ b) old new
appends-more a b None mid new p q = rw (q, p) refl
appends-more a b (Some held) mid new p q = rw (q, p, ← append_assoc held a b) refl

-- what was read so far
pub record HasRead (most : ℕ) (text : List ℕ) (old now : Option (List ℕ)) (faults_old faults_now : ℕ) : Type 0 where
  pub few : length text ≤ most + 1
  pub front : old ≡ option_map (λ rest. text ++ rest) now
  pub count : faults_old ≤ faults_now

pub front-nil : (old : Option (List ℕ)) → old ≡ option_map (λ rest. [] ++ rest) old
front-nil None = refl
front-nil (Some rest) = refl

pub front-more : (a b : List ℕ) (old mid new : Option (List ℕ)) → old ≡ option_map (λ rest. a ++ rest) mid → mid ≡ option_map (λ rest. b ++ rest) new → old ≡ option_map (λ rest. (a ++ b) ++ rest) new
front-more a b old mid None p q = rw (p, q) refl
front-more a b old mid (Some rest) p q = rw (p, q, append_assoc a b rest) refl

-- one write more
pub writes_more : {bytes rest after : List ℕ} {old mid new : Option (List ℕ)} {f m k spare spare' : ℕ} (n : ℕ) → IsWriting bytes rest old mid f m spare → rest ≡ take n rest ++ after → length rest ≡ n + length after → Counts m k → IsAppended n rest mid new spare spare' → IsWriting bytes after old new f k spare'
writes_more {bytes} {rest} {after} {old} {mid} {new} {f} {m} {k} {spare} {spare'} n w split shorter counts put = record {
  front = w.front ++ take n rest;
  split = w.split ∙ ap (λ r. w.front ++ r) split ∙ sym (append_assoc w.front (take n rest) after);
  appends = appends-more w.front (take n rest) old mid new w.appends put.end;
  count = omega arith;
  room = omega arith;
}

-- bytes that were taken and lost are few too
pub loses_few : {most : ℕ} {text : List ℕ} {old mid new : Option (List ℕ)} {f m room : ℕ} → HasRead most text old mid f m → Loses room mid new → length text + room ≤ most + 1 → TakesFew most old new
loses_few {most} {text} {old} {mid} {new} h l fits = record {
  taken = text ++ l.bytes;
  few = rw (length-append text l.bytes) (omega (arith, fits, l.most));
  split = front-more text l.bytes old mid new h.front l.left;
}
