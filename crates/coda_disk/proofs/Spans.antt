-- One more call joins those of a disk in memory, or a sync ends their span.
use Rattle.std.proofs.Common.{◌≡◌, ◌⊎◌, inl, inr, ℕ, ◌+◌, ◌-◌, ◌<◌, ◌≤◌, Bool, true, false, ◌&&◌, List, [], ◌∷◌, ◌++◌, length, take, drop, refl, sym, ◌∙◌, ap, subst, arith, length-append, length-take, length-drop, append_assoc, Vec}
use Rattle.std.proofs.lemmas.List.{take-append-le, take_all, take_at, drop_at, drop_all, append-nil}
use Rattle.std.proofs.lemmas.Bool.{cases_lt}
use Rattle.std.specs.declared.alloc.Global.{Global}
use Rattle.std.specs.Prelude.{Result, Ok, Err, OnOk}
use Rattle.coda_disk.specs.Told.{Told, put, HoldsPast, Torn, Cut, Elapses, Kept, Written, WasCut, Follows}
use Rattle.coda_disk.specs.Memory.{State, fresh, step, after, state_of, told_of, moments, LeftBefore, LeftIn, is_inside, are_inside, Ends}
use Rattle.coda_disk.specs.declared.calls.Call.{Call}
use Rattle.coda_disk.specs.declared.calls.Call.TheVariants.{Write, Stopped, Resize}
use Rattle.coda_disk.specs.declared.calls.Past.{Past}

pub after-push : (s : State) (calls : List Call) (x : Call) → after s (calls ++ x ∷ []) ≡ step (after s calls) x
after-push s [] x = refl
after-push s (y ∷ calls) x = after-push (step s y) calls x

-- what is read after one more call
pub seen_push : (synced : List ℕ) (calls : List Call) (x : Call) → (state_of synced (calls ++ x ∷ [])).seen ≡ (step (state_of synced calls) x).seen
seen_push synced calls x = ap (λ (q : State). q.seen) (after-push (fresh synced) calls x)

-- one more call that is inside joins calls that are
pub inside_push : (s : State) (calls : List Call) (x : Call) → are_inside s calls ≡ true → is_inside (after s calls).seen x ≡ true → are_inside s (calls ++ x ∷ []) ≡ true
inside_push s [] x all here = rw here refl
inside_push s (y ∷ calls) x all here = both (is_inside s.seen y) (are_inside (step s y) calls) all (inside_push (step s y) calls x)
  where
    both : (a b : Bool) → (a && b) ≡ true → (b ≡ true → is_inside (after (step s y) calls).seen x ≡ true → are_inside (step s y) (calls ++ x ∷ []) ≡ true) → (a && are_inside (step s y) (calls ++ x ∷ [])) ≡ true
    both true b e more = more e here
    both false b e more = e

pub elapses_same : (past : Past) (synced : List ℕ) (calls : List Call) → Elapses (told_of past synced calls) (told_of past synced calls)
elapses_same past synced calls = record { later = omega arith; nothing_else = λ t c le left. inl left; keeps = λ t c le left. left }

pub elapses_push : (past : Past) (synced : List ℕ) (calls : List Call) (x : Call) → Elapses (told_of past synced calls) (told_of past synced (calls ++ x ∷ []))
elapses_push past synced calls x = record {
  later = omega (arith, length-append calls (x ∷ []));
  nothing_else = λ t c le left. goes_on t c left;
  keeps = λ t c le left. kept t c left;
}
  where
    goes_on : (t : ℕ) (c : List ℕ) → LeftBefore past t c ⊎ LeftIn (moments past) synced (calls ++ x ∷ []) t c → (LeftBefore past t c ⊎ LeftIn (moments past) synced calls t c) ⊎ (state_of synced (calls ++ x ∷ [])).may_leave c
    goes_on t c (inl before) = inl (inl before)
    goes_on t c (inr left) = elim (cases_lt (length calls) left.0) [
      | inr old ↦ inl (inr (left.0, left.1, old, subst (λ (l : List Call). (state_of synced l).may_leave c) (take-append-le left.0 calls (x ∷ []) old) left.3))
      | inl new ↦ inr (subst (λ (l : List Call). (state_of synced l).may_leave c) (take_all left.0 (calls ++ x ∷ []) (omega (arith, new, length-append calls (x ∷ [])))) left.3)
    ]

    kept : (t : ℕ) (c : List ℕ) → LeftBefore past t c ⊎ LeftIn (moments past) synced calls t c → LeftBefore past t c ⊎ LeftIn (moments past) synced (calls ++ x ∷ []) t c
    kept t c (inl before) = inl before
    kept t c (inr left) = inr (left.0, left.1, omega (arith, left.2, length-append calls (x ∷ [])), subst (λ (l : List Call). (state_of synced l).may_leave c) (sym (take-append-le left.0 calls (x ∷ []) left.2)) left.3)

-- a sync ends the span
pub elapses_sync : (past new : Past) (synced seen : List ℕ) (calls : List Call) → Ends past synced calls new → Elapses (told_of past synced calls) (told_of new seen [])
elapses_sync past new synced seen calls ends = record {
  later = omega (arith, ends.passed);
  nothing_else = λ t c le left. goes_on t c left;
  keeps = λ t c le left. inl (ends.was_before t c left);
}
  where
    goes_on : (t : ℕ) (c : List ℕ) → LeftBefore new t c ⊎ LeftIn (moments new) seen [] t c → (LeftBefore past t c ⊎ LeftIn (moments past) synced calls t c) ⊎ (c ≡ seen)
    goes_on t c (inl before) = inl (ends.is_before t c before)
    goes_on t c (inr left) = inr (subst (λ (l : List Call). (state_of seen l).may_leave c) (take_all left.0 [] (omega arith)) left.3)

-- a write is one of the ways in which it may be torn
pub torn_whole : (at : ℕ) (bytes old : List ℕ) → at ≤ length old → Torn at (length bytes) old (put old at bytes)
torn_whole at bytes old le =
    let rest = drop (at + length bytes) old in
    let short : length (take at old) ≡ at = omega (arith, length-take at old) in
    let both : length (take at old ++ bytes) ≡ at + length bytes = omega (arith, short, length-append (take at old) bytes) in
    let all : length (take at old ++ bytes ++ rest) ≡ at + length bytes + length rest = omega (arith, both, length-append (take at old ++ bytes) rest) in
    record {
      before = ap (λ (l : List ℕ). take at l) (append_assoc (take at old) bytes rest) ∙ take_at (take at old) (bytes ++ rest) at short;
      after = drop_at (take at old ++ bytes) rest (at + length bytes) both;
      no_shorter = omega (arith, all, length-drop (at + length bytes) old);
      no_longer = omega (arith, all, length-drop (at + length bytes) old);
    }

pub torn_none : (at n : ℕ) (old : List ℕ) → Torn at n old old
torn_none at n old = record { before = refl; after = refl; no_shorter = omega arith; no_longer = omega arith }

pub cut_none : (size : ℕ) (old : List ℕ) → Cut size old old
cut_none size old = record { no_shorter = omega arith; front = take_all (length old) old (omega arith) }

pub cut_whole : (size : ℕ) (old : List ℕ) → Cut size old (take size old)
cut_whole size old = record {
  no_shorter = omega (arith, length-take size old);
  front = elim (cases_lt size (length old)) [
    | inl short ↦ let e : length (take size old) ≡ size = omega (arith, length-take size old) in ap (λ (n : ℕ). take n old) e
    | inr long ↦ let all = take_all size old long in ap (λ (l : List ℕ). take (length l) old) all ∙ take_all (length old) old (omega arith) ∙ sym all
  ];
}

on_ok : {T E P : Type 0} (r : Result T E) → P → OnOk r P
on_ok (Ok x) p = p
on_ok (Err e) p = tt

module _ (past : Past) (synced : List ℕ) (calls : List Call) (h : (told_of past synced calls).honest) where
  abbrev s : State
  s = state_of synced calls

  pub wrote : {T E : Type 0} {r : Result T E} (at : ℕ) (v : Vec ℕ Global) → at ≤ length s.seen → Written at v.items (told_of past synced calls) (told_of past synced (calls ++ Write at v ∷ [])) r
  wrote {r = r} at v le =
      let pushed = after-push (fresh synced) calls (Write at v) in
      record {
        honest = subst (λ (q : State). q.may_leave q.seen) (sym pushed) (s.seen, h, torn_whole at v.items s.seen le);
        time = elapses_push past synced calls (Write at v);
        written = λ _. on_ok r (ap (λ (q : State). q.seen) pushed);
        crash = λ _ c now. subst (λ (q : State). q.may_leave c) pushed now;
        written_past = λ lt. absurd (omega (arith, lt, le));
        crash_past = λ lt. absurd (omega (arith, lt, le));
      }

  pub stopped : {T E : Type 0} {e : E} (at : ℕ) (v : Vec ℕ Global) → at ≤ length s.seen → Written {T = T} {E = E} at v.items (told_of past synced calls) (told_of past synced (calls ++ Stopped at v ∷ [])) (Err e)
  stopped {T = T} {E = E} at v le =
      let pushed = after-push (fresh synced) calls (Stopped at v) in
      record {
        honest = subst (λ (q : State). q.may_leave q.seen) (sym pushed) (s.seen, h, torn_none at (length v.items) s.seen);
        time = elapses_push past synced calls (Stopped at v);
        written = λ _. tt;
        crash = λ _ c now. subst (λ (q : State). q.may_leave c) pushed now;
        written_past = λ _. tt;
        crash_past = λ lt. absurd (omega (arith, lt, le));
      }

  pub not_written : {T E : Type 0} {e : E} (at : ℕ) (bytes : List ℕ) → Written {T = T} {E = E} at bytes (told_of past synced calls) (told_of past synced calls) (Err e)
  not_written {T = T} {E = E} at bytes = record { honest = h; time = elapses_same past synced calls; written = λ _. tt; crash = λ _ c now. (c, now, torn_none at (length bytes) c); written_past = λ _. tt; crash_past = λ _ c now. (c, now, torn_none _ _ c) }

  pub was_cut : {T E : Type 0} {r : Result T E} (size : ℕ) → WasCut size (told_of past synced calls) (told_of past synced (calls ++ Resize size ∷ [])) r
  was_cut {r = r} size =
      let pushed = after-push (fresh synced) calls (Resize size) in
      record {
        honest = subst (λ (q : State). q.may_leave q.seen) (sym pushed) (s.seen, h, cut_whole size s.seen);
        time = elapses_push past synced calls (Resize size);
        written = λ _. on_ok r (ap (λ (q : State). q.seen) pushed);
        crash = λ _ c now. subst (λ (q : State). q.may_leave c) pushed now;
      }

  pub not_cut : {T E : Type 0} {e : E} (size : ℕ) → WasCut {T = T} {E = E} size (told_of past synced calls) (told_of past synced calls) (Err e)
  not_cut {T = T} {E = E} size = record { honest = h; time = elapses_same past synced calls; written = λ _. tt; crash = λ _ c now. (c, now, cut_none size c) }

  -- a sync, which leaves what was read
  pub synced_now : (new : Past) (bytes : List ℕ) → bytes ≡ s.seen → Ends past synced calls new → Kept (told_of past synced calls) (told_of new bytes [])
  synced_now new bytes is ends = record {
    honest = refl;
    seen = is;
    crash = λ c now. subst s.may_leave (sym (now ∙ is)) h;
    time = elapses_sync past new synced bytes calls ends;
  }

-- what was done at the end of a disk, of a gap and the bytes, is a write past the end
pub past_written : {T E : Type 0} {r : Result T E} (t0 t1 : Told) (at : ℕ) (padded gap bytes : List ℕ) → length t0.seen < at → length gap ≡ at - length t0.seen → padded ≡ gap ++ bytes → Written (length t0.seen) padded t0 t1 r → Written at bytes t0 t1 r
past_written {r = r} t0 t1 at padded gap bytes lt size is w = record {
  honest = w.honest;
  time = w.time;
  written = λ le. absurd (omega (arith, lt, le));
  crash = λ le. absurd (omega (arith, lt, le));
  written_past = λ _. holds r (w.written (omega arith));
  crash_past = λ _. subst (λ (n : ℕ). Follows (Torn (length t0.seen) n) t0.may_leave t1.may_leave) (omega (arith, lt, size, ap length is, length-append gap bytes)) (w.crash (omega arith));
}
  where
    holds : {A B : Type 0} (x : Result A B) → OnOk x (t1.seen ≡ put t0.seen (length t0.seen) padded) → OnOk x (HoldsPast t0.seen at bytes t1.seen)
    holds (Err e) h = tt
    holds (Ok y) h = (
      gap,
      size,
      h ∙ ap (λ (l : List ℕ). l ++ padded ++ drop (length t0.seen + length padded) t0.seen) (take_all (length t0.seen) t0.seen (omega arith))
          ∙ ap (λ (l : List ℕ). t0.seen ++ padded ++ l) (drop_all (length t0.seen + length padded) t0.seen (omega arith)) ∙ append-nil (t0.seen ++ padded)
          ∙ ap (λ (l : List ℕ). t0.seen ++ l) is ∙ sym (append_assoc t0.seen gap bytes),
    )
