-- The calls of a disk in memory, and what they leave of what it keeps.
use Rattle.std.proofs.Common.{◌≡◌, ◌⊎◌, inl, inr, ℕ, ◌-◌, ◌<◌, ◌≤◌, true, List, [], ◌∷◌, ◌++◌, length, take, refl, sym, ◌∙◌, ap, subst, arith, Vec}
use Rattle.std.proofs.lemmas.Bool.{cases_lt, le-leb}
use Rattle.std.specs.declared.alloc.Global.{Global}
use Rattle.std.specs.Prelude.{Result, Err}
use Rattle.coda_disk.specs.Told.{Told, put, Kept, Written, WasCut}
use Rattle.coda_disk.specs.Memory.{fresh, state_of, told_of, are_inside, Ends}
use Rattle.coda_disk.specs.declared.calls.Call.{Call}
use Rattle.coda_disk.specs.declared.calls.Call.TheVariants.{Write, Stopped, Resize}
use Rattle.coda_disk.specs.declared.calls.Past.{Past}
use Rattle.coda_disk.proofs.Spans.{seen_push, inside_push, wrote, stopped, not_written, was_cut, synced_now, past_written}

-- where a write of these bytes begins, and what it writes there
pub record IsPlaced (end at : ℕ) (bytes : List ℕ) (start : ℕ) (written : List ℕ) : Type 0 where
  pub inside : at ≤ end → (start ≡ at) × (written ≡ bytes)
  pub past : end < at → (start ≡ end) × ((gap : List ℕ) × (length gap ≡ at - end) × (written ≡ gap ++ bytes))

pub placed_at : (size end at : ℕ) (bytes : List ℕ) (start : ℕ) (written : List ℕ) → size ≡ end → (at ≤ size → (start ≡ at) × (written ≡ bytes))
    → (size < at → (start ≡ size) × ((gap : List ℕ) × (length gap ≡ at - size) × (written ≡ gap ++ bytes))) → IsPlaced end at bytes start written
placed_at size end at bytes start written same inside past = subst (λ (n : ℕ). IsPlaced n at bytes start written) same (record { inside = inside; past = past })

pub begins_inside : (end at : ℕ) (bytes : List ℕ) (start : ℕ) (written : List ℕ) → IsPlaced end at bytes start written → start ≤ end
begins_inside end at bytes start written p = elim (cases_lt end at) [
  | inl beyond ↦ omega (arith, (p.past beyond).0)
  | inr within ↦ omega (arith, within, (p.inside within).0)
]

placed_written : {T E : Type 0} {r : Result T E} (t0 t1 : Told) (at : ℕ) (bytes : List ℕ) (start : ℕ) (written : List ℕ) → IsPlaced (length t0.seen) at bytes start written → Written start written t0 t1 r → Written at bytes t0 t1 r
placed_written {r = r} t0 t1 at bytes start written p w = elim (cases_lt (length t0.seen) at) [
  | inl beyond ↦ let q = p.past beyond in past_written t0 t1 at written q.1.0 bytes beyond q.1.1 q.1.2 (subst (λ (n : ℕ). Written n written t0 t1 r) q.0 w)
  | inr within ↦ let q = p.inside within in subst (λ (b : List ℕ). Written at b t0 t1 r) q.1 (subst (λ (n : ℕ). Written n written t0 t1 r) q.0 w)
]

module _ (past : Past) (synced : List ℕ) (calls later : List Call) where
  pub wrote_at : {T E : Type 0} {r : Result T E} (h : (told_of past synced calls).honest) (at : ℕ) (bytes : List ℕ) (start : ℕ) (v : Vec ℕ Global) → IsPlaced (length (state_of synced calls).seen) at bytes start v.items
      → later ≡ calls ++ Write start v ∷ [] → Written at bytes (told_of past synced calls) (told_of past synced later) r
  wrote_at {r = r} h at bytes start v p is =
      subst (λ (l : List Call). Written at bytes (told_of past synced calls) (told_of past synced l) r) (sym is)
      (placed_written (told_of past synced calls) (told_of past synced (calls ++ Write start v ∷ [])) at bytes start v.items p
      (wrote past synced calls h start v (begins_inside (length (state_of synced calls).seen) at bytes start v.items p)))

  pub stopped_at : {T E : Type 0} {e : E} (h : (told_of past synced calls).honest) (at : ℕ) (bytes : List ℕ) (start : ℕ) (v : Vec ℕ Global) → IsPlaced (length (state_of synced calls).seen) at bytes start v.items
      → (later ≡ calls) ⊎ (later ≡ calls ++ Stopped start v ∷ []) → Written {T = T} {E = E} at bytes (told_of past synced calls) (told_of past synced later) (Err e)
  stopped_at {T = T} {E = E} {e = e} h at bytes start v p (inl is) =
      subst (λ (l : List Call). Written {T = T} {E = E} at bytes (told_of past synced calls) (told_of past synced l) (Err e)) (sym is) (not_written past synced calls h at bytes)
  stopped_at {T = T} {E = E} {e = e} h at bytes start v p (inr is) =
      subst (λ (l : List Call). Written {T = T} {E = E} at bytes (told_of past synced calls) (told_of past synced l) (Err e)) (sym is)
      (placed_written (told_of past synced calls) (told_of past synced (calls ++ Stopped start v ∷ [])) at bytes start v.items p
      (stopped past synced calls h start v (begins_inside (length (state_of synced calls).seen) at bytes start v.items p)))

  pub seen_wrote : (old new : List ℕ) (start : ℕ) (v : Vec ℕ Global) → old ≡ (state_of synced calls).seen → later ≡ calls ++ Write start v ∷ [] → new ≡ put old start v.items → new ≡ (state_of synced later).seen
  seen_wrote old new start v was is done = rw is (done ∙ ap (λ (l : List ℕ). put l start v.items) was ∙ sym (seen_push synced calls (Write start v)))

  pub inside_wrote : (start : ℕ) (v : Vec ℕ Global) → are_inside (fresh synced) calls ≡ true → later ≡ calls ++ Write start v ∷ [] → start ≤ length (state_of synced calls).seen → are_inside (fresh synced) later ≡ true
  inside_wrote start v all is le = rw is (inside_push (fresh synced) calls (Write start v) all (le-leb start (length (state_of synced calls).seen) le))

  pub seen_stopped : (now : List ℕ) (start : ℕ) (v : Vec ℕ Global) → now ≡ (state_of synced calls).seen → (later ≡ calls) ⊎ (later ≡ calls ++ Stopped start v ∷ []) → now ≡ (state_of synced later).seen
  seen_stopped now start v was (inl is) = rw is was
  seen_stopped now start v was (inr is) = rw is (was ∙ sym (seen_push synced calls (Stopped start v)))

  pub inside_stopped : (start : ℕ) (v : Vec ℕ Global) → are_inside (fresh synced) calls ≡ true → (later ≡ calls) ⊎ (later ≡ calls ++ Stopped start v ∷ []) → start ≤ length (state_of synced calls).seen → are_inside (fresh synced) later ≡ true
  inside_stopped start v all (inl is) le = rw is all
  inside_stopped start v all (inr is) le = rw is (inside_push (fresh synced) calls (Stopped start v) all (le-leb start (length (state_of synced calls).seen) le))

  pub was_cut_at : {T E : Type 0} {r : Result T E} (h : (told_of past synced calls).honest) (size : ℕ) → later ≡ calls ++ Resize size ∷ [] → WasCut size (told_of past synced calls) (told_of past synced later) r
  was_cut_at {r = r} h size is = subst (λ (l : List Call). WasCut size (told_of past synced calls) (told_of past synced l) r) (sym is) (was_cut past synced calls h size)

  pub seen_cut : (old new : List ℕ) (size : ℕ) → old ≡ (state_of synced calls).seen → later ≡ calls ++ Resize size ∷ [] → new ≡ take size old → new ≡ (state_of synced later).seen
  seen_cut old new size was is done = rw is (done ∙ ap (λ (l : List ℕ). take size l) was ∙ sym (seen_push synced calls (Resize size)))

  pub inside_cut : (size : ℕ) → are_inside (fresh synced) calls ≡ true → later ≡ calls ++ Resize size ∷ [] → are_inside (fresh synced) later ≡ true
  inside_cut size all is = rw is (inside_push (fresh synced) calls (Resize size) all refl)

  pub synced_at : (h : (told_of past synced calls).honest) (new : Past) (bytes now : List ℕ) → bytes ≡ (state_of synced calls).seen → Ends past synced calls new → now ≡ bytes → later ≡ []
      → Kept (told_of past synced calls) (told_of new now later)
  synced_at h new bytes now was ends is none =
      subst (λ (l : List Call). Kept (told_of past synced calls) (told_of new now l)) (sym none)
      (subst (λ (b : List ℕ). Kept (told_of past synced calls) (told_of new b [])) (sym is) (synced_now past synced calls h new bytes was ends))
