-- The two device calls of a synced write.
use Rattle.std.proofs.Common.{refl, inl, inr, ℕ, ◌+◌, ◌-◌, ◌<◌, ◌≤◌, List, length, sym, ◌∙◌}
use Rattle.std.specs.Prelude.{Result, Ok, Err, OnOk, IsErr}
use Rattle.coda_disk.specs.Told.{Told, Torn, Cut, Only, Kept, Written, WasCut, LeavesOnly}
use Rattle.coda_journal.specs.Synced.{May, WroteSynced, CutSynced}
use Rattle.coda_journal.proofs.Moments.{started, goes_on}

pub off : {T E : Type 0} (P : Type 0) (r : Result T E) → IsErr r → OnOk r P
off P (Ok x) bad = cc
off P (Err e) bad = tt

abbrev pub OnlyNow : Told → Type 0
OnlyNow t = (c : List ℕ) → t.honest → t.left_since t.moment c → t.may_leave c

module _ (t0 : Told) (only_now : OnlyNow t0) (h : t0.honest) where
  -- from the old end on
  abbrev pub Past : ℕ → List ℕ → List ℕ → List ℕ → Type 0
  Past at bytes = Torn (length t0.seen) (at + length bytes - length t0.seen)

  pub wrote1 : {T E T' E' : Type 0} {r : Result T E} {r' : Result T' E'} (at : ℕ) (bytes : List ℕ) (t1 : Told) → Written at bytes t0 t1 r → IsErr r' → WroteSynced at bytes t0 t1 r'
  wrote1 {r' = r'} at bytes t1 w bad = record {
    honest = w.honest;
    leaves = λ le. goes_on t0 t0 t1 (May (Torn at (length bytes)) t0.may_leave) (started t0 (May (Torn at (length bytes)) t0.may_leave) (λ c left. inl (only_now c h left))) w.time (λ c now. inr (w.crash le c now));
    written = λ le. off _ r' bad;
    leaves_past = λ lt. goes_on t0 t0 t1 (May (Past at bytes) t0.may_leave) (started t0 (May (Past at bytes) t0.may_leave) (λ c left. inl (only_now c h left))) w.time (λ c now. inr (w.crash_past lt c now));
    written_past = λ lt. off _ r' bad;
  }

  past2 : {T E : Type 0} {r : Result T E} (at : ℕ) (bytes : List ℕ) (t1 t2 : Told) → Written at bytes t0 t1 r → Kept t1 t2 → length t0.seen < at → LeavesOnly t0 t2 (May (Past at bytes) t0.may_leave)
  past2 at bytes t1 t2 w k lt = goes_on t0 t1 t2 (May (Past at bytes) t0.may_leave) ((wrote1 {T' = Unit {0}} {E' = Unit {0}} {r' = Err tt} at bytes t1 w refl).leaves_past lt) k.time (λ c now. inr (w.crash_past lt c (k.crash c now)))

  leaves2 : {T E : Type 0} {r : Result T E} (at : ℕ) (bytes : List ℕ) (t1 t2 : Told) → Written at bytes t0 t1 r → Kept t1 t2 → at ≤ length t0.seen → LeavesOnly t0 t2 (May (Torn at (length bytes)) t0.may_leave)
  leaves2 at bytes t1 t2 w k le = goes_on t0 t1 t2 (May (Torn at (length bytes)) t0.may_leave) ((wrote1 {T' = Unit {0}} {E' = Unit {0}} {r' = Err tt} at bytes t1 w refl).leaves le) k.time (λ c now. inr (w.crash le c (k.crash c now)))

  pub wrote2 : {T E T' E' : Type 0} {r : Result T E} {r' : Result T' E'} (at : ℕ) (bytes : List ℕ) (t1 t2 : Told) → Written at bytes t0 t1 r → Kept t1 t2 → IsErr r' → WroteSynced at bytes t0 t2 r'
  wrote2 {r' = r'} at bytes t1 t2 w k bad = record { honest = k.honest; leaves = leaves2 at bytes t1 t2 w k; written = λ le. off _ r' bad; leaves_past = past2 at bytes t1 t2 w k; written_past = λ lt. off _ r' bad }

  pub wrote_ok : {T E T' E' : Type 0} {x : T} {y : T'} (at : ℕ) (bytes : List ℕ) (t1 t2 : Told) → Written {T = T} {E = E} at bytes t0 t1 (Ok x) → Kept t1 t2 → Only t1.seen t2.may_leave → WroteSynced {T = T'} {E = E'} at bytes t0 t2 (Ok y)
  wrote_ok at bytes t1 t2 w k only = record {
    honest = k.honest;
    leaves = leaves2 at bytes t1 t2 w k;
    written = λ le. (k.seen ∙ w.written le, λ c now. only c now ∙ sym k.seen);
    leaves_past = past2 at bytes t1 t2 w k;
    written_past = λ lt. let p = w.written_past lt in ((p.0, p.1, k.seen ∙ p.2), λ c now. only c now ∙ sym k.seen);
  }

  pub cut1 : {T E T' E' : Type 0} {r : Result T E} {r' : Result T' E'} (size : ℕ) (t1 : Told) → WasCut size t0 t1 r → IsErr r' → CutSynced size t0 t1 r'
  cut1 {r' = r'} size t1 w bad = record {
    honest = w.honest;
    leaves = λ le. goes_on t0 t0 t1 (May (Cut size) t0.may_leave) (started t0 (May (Cut size) t0.may_leave) (λ c left. inl (only_now c h left))) w.time (λ c now. inr (w.crash le c now));
    written = λ le. off _ r' bad;
  }

  cut_leaves2 : {T E : Type 0} {r : Result T E} (size : ℕ) (t1 t2 : Told) → WasCut size t0 t1 r → Kept t1 t2 → size ≤ length t0.seen → LeavesOnly t0 t2 (May (Cut size) t0.may_leave)
  cut_leaves2 size t1 t2 w k le = goes_on t0 t1 t2 (May (Cut size) t0.may_leave) ((cut1 {T' = Unit {0}} {E' = Unit {0}} {r' = Err tt} size t1 w refl).leaves le) k.time (λ c now. inr (w.crash le c (k.crash c now)))

  pub cut2 : {T E T' E' : Type 0} {r : Result T E} {r' : Result T' E'} (size : ℕ) (t1 t2 : Told) → WasCut size t0 t1 r → Kept t1 t2 → IsErr r' → CutSynced size t0 t2 r'
  cut2 {r' = r'} size t1 t2 w k bad = record { honest = k.honest; leaves = cut_leaves2 size t1 t2 w k; written = λ le. off _ r' bad }

  pub cut_ok : {T E T' E' : Type 0} {x : T} {y : T'} (size : ℕ) (t1 t2 : Told) → WasCut {T = T} {E = E} size t0 t1 (Ok x) → Kept t1 t2 → Only t1.seen t2.may_leave → CutSynced {T = T'} {E = E'} size t0 t2 (Ok y)
  cut_ok size t1 t2 w k only = record {
    honest = k.honest;
    leaves = cut_leaves2 size t1 t2 w k;
    written = λ le. (k.seen ∙ w.written le, λ c now. only c now ∙ sym k.seen);
  }
