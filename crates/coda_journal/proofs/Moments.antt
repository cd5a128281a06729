-- How a run of device calls goes on.
use Rattle.std.proofs.Common.{inl, inr, ⊎_elim, ℕ, List, refl, ◌∙◌, arith}
use Rattle.coda_disk.specs.Told.{Told, Elapses, LeavesOnly}
use Rattle.coda_journal.specs.Quiet.{Quiet}

-- before the first call
pub started : (old : Told) (P : List ℕ → Type 0) → ((c : List ℕ) → old.left_since old.moment c → P c) → LeavesOnly old old P
started old P here = record { later = omega arith; each = here; before = λ t c le left. inl left }

-- one call more, after which a crash leaves what has P
pub goes_on : (old mid new : Told) (P : List ℕ → Type 0) → LeavesOnly old mid P → Elapses mid new → ((c : List ℕ) → new.may_leave c → P c) → LeavesOnly old new P
goes_on old mid new P so_far time here = record {
  later = omega (arith, so_far.later, time.later);
  each = λ c left. ⊎_elim (so_far.each c) (here c) (time.nothing_else old.moment c so_far.later left);
  before = λ t c le left. ⊎_elim (so_far.before t c le) (λ now. inr (here c now)) (time.nothing_else t c (omega (arith, le, so_far.later)) left);
}

-- one run after another
pub and_then : (old mid new : Told) (P : List ℕ → Type 0) → LeavesOnly old mid P → LeavesOnly mid new P → LeavesOnly old new P
and_then old mid new P first second = record {
  later = omega (arith, first.later, second.later);
  each = λ c left. ⊎_elim (first.each c) (λ now. now) (second.before old.moment c first.later left);
  before = λ t c le left. ⊎_elim (first.before t c le) (λ now. inr now) (second.before t c (omega (arith, le, first.later)) left);
}

pub widen : (old new : Told) (P Q : List ℕ → Type 0) → ((c : List ℕ) → P c → Q c) → LeavesOnly old new P → LeavesOnly old new Q
widen old new P Q wider run = record {
  later = run.later;
  each = λ c left. wider c (run.each c left);
  before = λ t c le left. ⊎_elim (λ was. inl was) (λ p. inr (wider c p)) (run.before t c le left);
}

-- one run of calls that write nothing after another
pub both : (t0 t1 t2 : Told) → Quiet t0 t1 → Quiet t1 t2 → Quiet t0 t2
both t0 t1 t2 a b = record {
  honest = b.honest;
  seen = b.seen ∙ a.seen;
  crash = λ c now. a.crash c (b.crash c now);
  leaves = and_then t0 t1 t2 t0.may_leave a.leaves (widen t1 t2 t1.may_leave t0.may_leave a.crash b.leaves);
}

pub at_rest : (t : Told) → t.honest → ((c : List ℕ) → t.honest → t.left_since t.moment c → t.may_leave c) → Quiet t t
at_rest t h only_now = record { honest = h; seen = refl; crash = λ c now. now; leaves = started t t.may_leave (λ c left. only_now c h left) }
