-- Objects are where the log created them.
use Rattle.std.proofs.Common.{◌≡◌, ℕ, Bool, true, false, cond, ◌||◌, not, List, [], ◌∷◌, ◌++◌, append_assoc, Some}
use Rattle.std.proofs.Common.{None, refl, sym, ap, ◌∙◌, subst, ⊎_elim, inl, inr, ◌⊎◌}
use Rattle.std.specs.FinMap as map
use Rattle.std.proofs.lemmas.Bool.{cond_both, and_parts, or_parts, or_cases, or_left, or_right, false≢true}
use Rattle.std.proofs.lemmas.Bool.{false_from_ne_true, cases_Bool}
use Rattle.coda_fid.specs.Fid.{same_fid}
use Rattle.coda_fid.specs.Op.{carried}
use Rattle.coda_fid.specs.declared.fid.Fid.{Fid}
use Rattle.coda_fid.specs.declared.fid.Sid.{Sid}
use Rattle.coda_fid.specs.declared.op.Op.{Op}
use Rattle.coda_fid.specs.declared.op.Op.TheVariants.{Create, Mkdir, Symlink, Store, Setattr, Remove, Rmdir, Rename}
use Rattle.coda_fid.specs.declared.op.Record.{Record}
use Rattle.coda_fid.proofs.Fids.{fids_total, exact_fids}
use Rattle.coda_tree.specs.declared.node.Node.{Node}
use Rattle.coda_tree.specs.Bindings.{Name}
use Rattle.coda_tree.specs.Volume.{Nodes, child, child_of}
use Rattle.coda_tree.proofs.Order.{fid_cases, get_here, get_else, gone_here, gone_else}
use Rattle.std.proofs.lemmas.List.{append-nil}
use Rattle.std.proofs.lemmas.Option.{none-some}
use Rattle.coda_certify.specs.Replay.{applied}
use Rattle.coda_cancel.specs.Handing.{Debt, nothing, owe, paid, hand, sid_or, with_pre}
use Rattle.coda_cancel.specs.Dropping.{creates, writes, mentioning, drops}
use Rattle.coda_cancel.specs.Cancel.{cancels, without, object, kept, debt, appended, add, is_undone}
use Rattle.coda_cancel.proofs.Debts.{Blind, creates-with_pre}
use Rattle.coda_cancel.proofs.Keys.{fid_true, fid_same, is_write}
use Rattle.coda_cml.specs.Steady.{any_record, unbinds, IsFresh}
use Rattle.coda_cml.proofs.runs.AlmostAlike.{drops_write}
use Rattle.coda_cml.proofs.runs.StillThere.{creates_mentions}
use Rattle.coda_cml.proofs.runs.ThawedFold.{creates_in_add}
use Rattle.coda_cml.proofs.runs.UndoneCreations.{all_records, only_made, undone_parts}
use Rattle.coda_cml.proofs.runs.WithoutObject.{any-append}
use Rattle.coda_cell.specs.Accepting.{sight_of}
use Rattle.coda_cell.specs.State.{ClientState}
use Rattle.coda_venus.proofs.Accepted.{Relies, accepted_relies}
use Rattle.coda_cell.proofs.AfterOperations.{IsBoundBy, bound_before}
use Rattle.coda_cell.proofs.KeptChildren.{unbinds_mentions, any_weaker}
use Rattle.coda_overlay.specs.Overlaying.{IsCreatedAt, AreCreatedAt, RemovesInPlace, AllRemoveInPlace}
use Rattle.coda_creations.specs.Places.{AreWhereCreated, CreatesUnseen, RemovesUnmoved, AllRemoveUnmoved}
use Rattle.coda_creations.specs.Places.{AllCreateFresh, AcceptedRemovalsAreInPlace, ObjectsStayWhereCreated}
use Rattle.coda_creations.specs.Places.{UnmovedRemovalsAreInPlace}

-- ---- what takes an object from its place neither creates nor writes anything

pub unbinds_none_made : (x y : Fid) (op : Op) → unbinds x op ≡ true → (creates y op || writes y op) ≡ true → ⊥
unbinds_none_made x y (Create d n g mode owner) h m = false≢true h
unbinds_none_made x y (Mkdir d n g mode owner) h m = false≢true h
unbinds_none_made x y (Symlink d n g target mode owner) h m = false≢true h
unbinds_none_made x y (Store g pre content) h m = false≢true h
unbinds_none_made x y (Setattr g pre a) h m = false≢true h
unbinds_none_made x y (Remove d n g pre) h m = false≢true m
unbinds_none_made x y (Rmdir d n g pre) h m = false≢true m
unbinds_none_made x y (Rename d n e m' g over) h m = false≢true m

pub unbinds_no_write : (x : Fid) (op : Op) → unbinds x op ≡ true → is_write op ≡ false
unbinds_no_write x (Create d n g mode owner) h = refl
unbinds_no_write x (Mkdir d n g mode owner) h = refl
unbinds_no_write x (Symlink d n g target mode owner) h = refl
unbinds_no_write x (Store g pre content) h = absurd (false≢true h)
unbinds_no_write x (Setattr g pre a) h = absurd (false≢true h)
unbinds_no_write x (Remove d n g pre) h = refl
unbinds_no_write x (Rmdir d n g pre) h = refl
unbinds_no_write x (Rename d n e m g over) h = refl

pub unbinds_with_pre : (x : Fid) → Blind (unbinds x)
unbinds_with_pre x h (Rename d n e m g None) = refl
unbinds_with_pre x h (Rename d n e m g (Some v)) = refl
unbinds_with_pre x h _ = refl

-- only creations and writes of an object stand in records that undo it
made_unbinds : (x : Fid) (recs : List Record) → all_records (only_made x) recs ≡ true
    → any_record (unbinds x) recs ≡ false
made_unbinds x [] m = refl
made_unbinds x (rec ∷ recs) m =
    let k = and_parts _ _ m in
    let here : unbinds x rec.op ≡ false = false_from_ne_true _ (λ h. unbinds_none_made x x rec.op h (ap (λ b. not b || (creates x rec.op || writes x rec.op)) (sym (unbinds_mentions rec.op x h)) ∙ k.0)) in
    (λ i. here i || made_unbinds x recs k.1 i)

-- ---- removals that are accepted

in_place : (m : Nodes) (recs : List Record) (dir : Fid) (name : Name) (fid : Fid) → AreWhereCreated m recs
    → child m dir name ≡ Some fid → is_undone fid recs ≡ true → AreCreatedAt dir name fid recs
in_place m recs dir name fid placed bound u = let p = undone_parts fid recs u in placed fid dir name p.0 (made_unbinds fid recs p.1) bound

pub none_made : (dir : Fid) (name : Name) (fid : Fid) (recs : List Record) → any_record (creates fid) recs ≡ false
    → AreCreatedAt dir name fid recs
none_made dir name fid [] h = tt
none_made dir name fid (rec ∷ recs) h = let k = or_parts _ _ h in (λ c. absurd (false≢true (sym k.0 ∙ c)), none_made dir name fid recs k.1)

at_home : (m : Nodes) (recs : List Record) (dir : Fid) (name : Name) (fid : Fid) → AreWhereCreated m recs
    → child m dir name ≡ Some fid → any_record (unbinds fid) recs ≡ false → AreCreatedAt dir name fid recs
at_home m recs dir name fid placed bound u = elim (cases_Bool (any_record (creates fid) recs)) [
  | inl made ↦ placed fid dir name made u bound
  | inr never ↦ none_made dir name fid recs never
]

relied_in_place : (c : ClientState) (volume : ℕ) (op : Op) (recs : List Record) → Relies (sight_of c volume) volume op
    → AreWhereCreated c.held.nodes recs → RemovesInPlace recs op × RemovesUnmoved recs op
relied_in_place c volume (Create d n g mode owner) recs r p = (tt, tt)
relied_in_place c volume (Mkdir d n g mode owner) recs r p = (tt, tt)
relied_in_place c volume (Symlink d n g target mode owner) recs r p = (tt, tt)
relied_in_place c volume (Store g pre content) recs r p = (tt, tt)
relied_in_place c volume (Setattr g pre a) recs r p = (tt, tt)
relied_in_place c volume (Remove d n g pre) recs r p =
    (in_place c.held.nodes recs d n g p r.0.bound, at_home c.held.nodes recs d n g p r.0.bound)
relied_in_place c volume (Rmdir d n g pre) recs r p =
    (in_place c.held.nodes recs d n g p r.0.bound, at_home c.held.nodes recs d n g p r.0.bound)
relied_in_place c volume (Rename d n e m g over) recs r p = (tt, tt)

pub accepted_in_place : AcceptedRemovalsAreInPlace
accepted_in_place c volume ask op recs accepted placed =
    relied_in_place c volume op recs (accepted_relies (sight_of c volume) volume ask op accepted) placed

-- ---- what stays in records to which one is added

module _ (x : Fid) where
  pub kept_unbinds : (op : Op) (owed : Debt) (rs : List Record) → any_record (unbinds x) rs ≡ true
      → any_record (unbinds x) (kept (drops op) owed rs) ≡ true
  kept_unbinds op owed [] h = h
  kept_unbinds op owed (r ∷ rs) h =
      go (drops op r.op) refl (or_cases (unbinds x r.op) (any_record (unbinds x) rs) h)
      (kept_unbinds op (owe owed (carried r.op)) rs) (kept_unbinds op (paid owed (carried r.op)) rs)
    where
      go : (b : Bool) → drops op r.op ≡ b → (unbinds x r.op ≡ true) ⊎ (any_record (unbinds x) rs ≡ true) → (any_record (unbinds x) rs ≡ true → any_record (unbinds x) (kept (drops op) (owe owed (carried r.op)) rs) ≡ true)
          → (any_record (unbinds x) rs ≡ true → any_record (unbinds x) (kept (drops op) (paid owed (carried r.op)) rs)
          ≡ true) → any_record (unbinds x) (cond b (kept (drops op) (owe owed (carried r.op)) rs)
          (hand owed r ∷ kept (drops op) (paid owed (carried r.op)) rs)) ≡ true
      go true e (inl here) one two = absurd (false≢true (sym (unbinds_no_write x r.op here) ∙ drops_write op r.op e))
      go true e (inr later) one two = one later
      go false e (inl here) one two =
          or_left (unbinds x (hand owed r).op) _ (unbinds_with_pre x (λ g p. sid_or (owed g) p) r.op ∙ here)
      go false e (inr later) one two = or_right (unbinds x (hand owed r).op) _ (two later)

  pub without_unbinds : (y : Fid) (rs : List Record) → all_records (only_made y) rs ≡ true
      → any_record (unbinds x) rs ≡ true → any_record (unbinds x) (without y rs) ≡ true
  without_unbinds y [] m h = h
  without_unbinds y (r ∷ rs) m h =
      go (mentioning y r.op) refl (or_cases (unbinds x r.op) (any_record (unbinds x) rs) h)
      (without_unbinds y rs (and_parts _ _ m).1)
    where
      go : (b : Bool) → mentioning y r.op ≡ b → (unbinds x r.op ≡ true) ⊎ (any_record (unbinds x) rs ≡ true)
          → (any_record (unbinds x) rs ≡ true → any_record (unbinds x) (without y rs) ≡ true)
          → any_record (unbinds x) (cond b (without y rs) (r ∷ without y rs)) ≡ true
      go true e (inl here) more =
          absurd (unbinds_none_made x y r.op here (ap (λ b. not b || (creates y r.op || writes y r.op)) (sym e)
          ∙ (and_parts _ _ m).0))
      go true e (inr later) more = more later
      go false e (inl here) more = or_left (unbinds x r.op) _ here
      go false e (inr later) more = or_right (unbinds x r.op) _ (more later)

  -- what cancels removes what was created, and nothing else is left of that
  pub cancelled : (op : Op) (rs : List Record) → cancels op rs ≡ true
      → (all_records (only_made (object (carried op))) rs ≡ true) × (unbinds x op ≡ true → object (carried op) ≡ x)
  cancelled (Remove d n y pre) rs h = ((undone_parts y rs h).1, λ same. fid_true y x same)
  cancelled (Rmdir d n y pre) rs h = ((undone_parts y rs h).1, λ same. fid_true y x same)
  cancelled _ rs h = absurd (false≢true h)

  pub unbinds_stay : (rs : List Record) (o : Record) → any_record (unbinds x) rs ≡ true
      → any_record (unbinds x) (add rs o) ≡ true
  unbinds_stay rs o before =
      cond_both (cancels o.op rs) (without (object (carried o.op)) rs) (appended rs o)
      (λ l. any_record (unbinds x) l ≡ true)
      (λ c. without_unbinds (object (carried o.op)) rs (cancelled o.op rs c).0 before)
      (λ c. any-append (unbinds x) (kept (drops o.op) nothing rs) (hand (debt (drops o.op) nothing rs) o ∷ [])
      ∙ or_left (any_record (unbinds x) (kept (drops o.op) nothing rs)) _ (kept_unbinds o.op nothing rs before))

  none_without : (rs : List Record) → any_record (creates x) (without x rs) ≡ false
  none_without [] = refl
  none_without (r ∷ rs) =
      cond_both (mentioning x r.op) (without x rs) (r ∷ without x rs) (λ l. any_record (creates x) l ≡ false)
      (λ m. none_without rs)
      (λ m. (λ i. false_from_ne_true (creates x r.op) (λ c. false≢true (sym m ∙ creates_mentions x r.op c)) i
      || none_without rs i))

  -- an operation that takes x from its place and cancels nothing stays
  last_stays : (rs : List Record) (o : Record) → cancels o.op rs ≡ false → unbinds x o.op ≡ true
      → any_record (unbinds x) (add rs o) ≡ true
  last_stays rs o c u =
      ap (λ b. any_record (unbinds x) (cond b (without (object (carried o.op)) rs) (appended rs o))) c ∙ any-append
      (unbinds x) (kept (drops o.op) nothing rs) (hand (debt (drops o.op) nothing rs) o ∷ [])
      ∙ or_right (any_record (unbinds x) (kept (drops o.op) nothing rs)) _
      (or_left (unbinds x (hand (debt (drops o.op) nothing rs) o).op) false
      (unbinds_with_pre x (λ g p. sid_or (debt (drops o.op) nothing rs g) p) o.op ∙ u))

  -- an operation that takes x from its place stays, or nothing is left that creates x
  last_unbinds : (rs : List Record) (o : Record) → unbinds x o.op ≡ true
      → (any_record (unbinds x) (add rs o) ≡ true) ⊎ (any_record (creates x) (add rs o) ≡ false)
  last_unbinds rs o u =
      cond_both (cancels o.op rs) (without (object (carried o.op)) rs) (appended rs o)
      (λ l. (any_record (unbinds x) l ≡ true) ⊎ (any_record (creates x) l ≡ false))
      (λ c. inr (subst (λ y. any_record (creates x) (without y rs) ≡ false) (sym ((cancelled o.op rs c).1 u))
      (none_without rs)))
      (λ c. inl (any-append (unbinds x) (kept (drops o.op) nothing rs) (hand (debt (drops o.op) nothing rs) o ∷ [])
      ∙ or_right (any_record (unbinds x) (kept (drops o.op) nothing rs)) _
      (or_left (unbinds x (hand (debt (drops o.op) nothing rs) o).op) false
      (unbinds_with_pre x (λ g p. sid_or (debt (drops o.op) nothing rs g) p) o.op ∙ u))))

-- ---- where records are created

pub made_with_pre : (dir : Fid) (name : Name) (h : Fid → Sid → Sid) (op : Op) → IsCreatedAt dir name op
    → IsCreatedAt dir name (with_pre h op)
made_with_pre dir name h (Rename d n e m g over) at = tt
made_with_pre dir name h (Create d n g mode owner) at = at
made_with_pre dir name h (Mkdir d n g mode owner) at = at
made_with_pre dir name h (Symlink d n g target mode owner) at = at
made_with_pre dir name h (Store g pre content) at = tt
made_with_pre dir name h (Setattr g pre a) at = tt
made_with_pre dir name h (Remove d n g pre) at = tt
made_with_pre dir name h (Rmdir d n g pre) at = tt

module _ (dir : Fid) (name : Name) (x : Fid) where
  pub kept_made : (op : Op) (owed : Debt) (rs : List Record) → AreCreatedAt dir name x rs
      → AreCreatedAt dir name x (kept (drops op) owed rs)
  kept_made op owed [] h = tt
  kept_made op owed (r ∷ rs) h =
      cond_both (drops op r.op) (kept (drops op) (owe owed (carried r.op)) rs)
      (hand owed r ∷ kept (drops op) (paid owed (carried r.op)) rs) (AreCreatedAt dir name x)
      (λ d. kept_made op (owe owed (carried r.op)) rs h.1)
      (λ d. (
        λ c. made_with_pre dir name (λ g p. sid_or (owed g) p) r.op
            (h.0 (sym (creates-with_pre (λ g p. sid_or (owed g) p) x r.op) ∙ c)),
        kept_made op (paid owed (carried r.op)) rs
            h.1,
      ))

  pub without_made : (y : Fid) (rs : List Record) → AreCreatedAt dir name x rs → AreCreatedAt dir name x (without y rs)
  without_made y [] h = tt
  without_made y (r ∷ rs) h =
      cond_both (mentioning y r.op) (without y rs) (r ∷ without y rs) (AreCreatedAt dir name x)
      (λ m. without_made y rs h.1) (λ m. (h.0, without_made y rs h.1))

  pub made_joined : (rs os : List Record) → AreCreatedAt dir name x rs → AreCreatedAt dir name x os
      → AreCreatedAt dir name x (rs ++ os)
  made_joined [] os a b = b
  made_joined (r ∷ rs) os a b = (a.0, made_joined rs os a.1 b)

  pub made_front : (rs os : List Record) → AreCreatedAt dir name x (rs ++ os) → AreCreatedAt dir name x rs
  made_front [] os h = tt
  made_front (r ∷ rs) os h = (h.0, made_front rs os h.1)

  pub made_back : (rs os : List Record) → AreCreatedAt dir name x (rs ++ os) → AreCreatedAt dir name x os
  made_back [] os h = h
  made_back (r ∷ rs) os h = made_back rs os h.1

  -- with one record more, which creates x there, or not at all
  pub made_added : (rs : List Record) (o : Record) → AreCreatedAt dir name x rs
      → (creates x o.op ≡ true → IsCreatedAt dir name o.op) → AreCreatedAt dir name x (add rs o)
  made_added rs o h at =
      cond_both (cancels o.op rs) (without (object (carried o.op)) rs) (appended rs o) (AreCreatedAt dir name x)
      (λ c. without_made (object (carried o.op)) rs h)
      (λ c. made_joined (kept (drops o.op) nothing rs) (hand (debt (drops o.op) nothing rs) o ∷ [])
      (kept_made o.op nothing rs h) (
        λ k. made_with_pre dir name (λ g p. sid_or (debt (drops o.op) nothing rs g) p) o.op
            (at (sym (creates-with_pre (λ g p. sid_or (debt (drops o.op) nothing rs g) p) x o.op) ∙ k)),
        tt,
      ))

-- ---- what an operation binds, it creates or moves

bound_facts : (op : Op) (d : Fid) (n : Name) (f : Fid) → IsBoundBy op d n f → ((creates f op ≡ true) × IsCreatedAt d n op) ⊎ ((unbinds f op ≡ true) × ((rs : List Record) → cancels op rs ≡ false))
bound_facts (Create dir name fid mode owner) d n f at = inl (fid_same fid f (sym at.2), (sym at.0, sym at.1))
bound_facts (Mkdir dir name fid mode owner) d n f at = inl (fid_same fid f (sym at.2), (sym at.0, sym at.1))
bound_facts (Symlink dir name fid target mode owner) d n f at = inl (fid_same fid f (sym at.2), (sym at.0, sym at.1))
bound_facts (Store fid pre content) d n f at = absurd at
bound_facts (Setattr fid pre attrs) d n f at = absurd at
bound_facts (Remove dir name fid pre) d n f at = absurd at
bound_facts (Rmdir dir name fid pre) d n f at = absurd at
bound_facts (Rename from_dir from to_dir to fid over) d n f at =
    inr (or_left (same_fid fid f) _ (fid_same fid f (sym at.2)), λ rs. refl)

operated : (m : Nodes) (client : ℕ) (rec : Record) (front tail : List Record) → CreatesUnseen m (front ++ tail) rec.op
    → AreWhereCreated m (front ++ tail) → AreWhereCreated (applied m client rec) (front ++ add tail rec)
operated m client rec front tail unseen placed fid dir name made unmoved bound = elim (bound_before m client rec dir name fid bound) [ inl old ↦ before old | inr anew ↦ now (bound_facts rec.op dir name fid anew) ]
  where
    apart : (any_record (unbinds fid) front ≡ false) × (any_record (unbinds fid) (add tail rec) ≡ false)
    apart = or_parts _ _ (sym (any-append (unbinds fid) front (add tail rec)) ∙ unmoved)

    tail_unmoved : any_record (unbinds fid) tail ≡ false
    tail_unmoved = false_from_ne_true _ (λ h. false≢true (sym apart.1 ∙ unbinds_stay fid tail rec h))

    before : child m dir name ≡ Some fid → AreCreatedAt dir name fid (front ++ add tail rec)
    before old =
        let never : creates fid rec.op ≡ true → ⊥ = λ c. unseen.unbound fid dir name c old in
        let was : any_record (creates fid) (front ++ tail) ≡ true = any-append (creates fid) front tail ∙ ⊎_elim
        (λ (a : any_record (creates fid) front ≡ true). or_left (any_record (creates fid) front) _ a)
        (λ (b : any_record (creates fid) (add tail rec) ≡ true). or_right (any_record (creates fid) front) _
        (⊎_elim (λ (c : any_record (creates fid) tail ≡ true). c)
        (λ (c : creates fid rec.op ≡ true). absurd (never c)) (or_cases _ _ (creates_in_add fid tail rec b))))
        (or_cases (any_record (creates fid) front) (any_record (creates fid) (add tail rec))
        (sym (any-append (creates fid) front (add tail rec)) ∙ made)) in
        let are : AreCreatedAt dir name fid (front ++ tail) = placed fid dir name was (any-append (unbinds fid) front tail ∙ (λ i. apart.0 i || tail_unmoved i)) old in
        made_joined dir name fid front (add tail rec) (made_front dir name fid front tail are)
        (made_added dir name fid tail rec (made_back dir name fid front tail are) (λ c. absurd (never c)))

    now : ((creates fid rec.op ≡ true) × IsCreatedAt dir name rec.op) ⊎ ((unbinds fid rec.op ≡ true) × ((rs : List Record) → cancels rec.op rs ≡ false)) → AreCreatedAt dir name fid (front ++ add tail rec)
    now (inl here) =
        let none = or_parts _ _ (sym (any-append (creates fid) front tail) ∙ unseen.new fid here.0) in
        made_joined dir name fid front (add tail rec) (none_made dir name fid front none.0)
        (made_added dir name fid tail rec (none_made dir name fid tail none.1) (λ _. here.1))
    now (inr moved) = absurd (false≢true (sym apart.1 ∙ last_stays fid tail rec (moved.1 tail) moved.0))

fetched : (m : Nodes) (fid : Fid) (node : Node) (recs : List Record)
    → ((name : Name) (kid : Fid) → child_of (Some node) name ≡ Some kid → any_record (creates kid) recs ≡ false)
    → AreWhereCreated m recs → AreWhereCreated (map.insert m fid node) recs
fetched m fid node recs predates placed x dir name made unmoved bound = elim (fid_cases dir fid) [
  | inl same ↦ absurd (false≢true (sym (predates name x (sym (ap (λ o. child_of o name) (ap (map.get (map.insert m fid node)) same ∙ get_here fids_total m fid node)) ∙ bound)) ∙ made))
  | inr off ↦ placed x dir name made unmoved (sym (ap (λ o. child_of o name) (get_else fids_total exact_fids m fid node dir off)) ∙ bound)
]

dropped : (m : Nodes) (fid : Fid) (recs : List Record) → AreWhereCreated m recs
    → AreWhereCreated (map.remove m fid) recs
dropped m fid recs placed x dir name made unmoved bound = elim (fid_cases dir fid) [
  | inl same ↦ absurd (none-some x (sym (ap (λ o. child_of o name) (ap (map.get (map.remove m fid)) same ∙ gone_here fids_total m fid)) ∙ bound))
  | inr off ↦ placed x dir name made unmoved (sym (ap (λ o. child_of o name) (gone_else fids_total exact_fids m fid dir off)) ∙ bound)
]

pub places_kept : ObjectsStayWhereCreated
places_kept = record { operated = operated; fetched = fetched; dropped = dropped }

-- ---- a tail that is added to its chunk

-- the records that are left of the past say where it created what they create, and what was taken from its place,
-- unless nothing is left that creates it
pub record AreLeft (past acc : List Record) : Type 0 where
  pub made : (x dir : Fid) (name : Name) → AreCreatedAt dir name x past → AreCreatedAt dir name x acc
  pub moved : (x : Fid) → any_record (unbinds x) past ≡ true
      → (any_record (unbinds x) acc ≡ true) ⊎ (any_record (creates x) acc ≡ false)

home_in_place : (past acc : List Record) (op : Op) → AreLeft past acc → RemovesUnmoved past op → RemovesInPlace acc op
home_in_place past acc (Create d n g mode owner) left home = tt
home_in_place past acc (Mkdir d n g mode owner) left home = tt
home_in_place past acc (Symlink d n g target mode owner) left home = tt
home_in_place past acc (Store g pre content) left home = tt
home_in_place past acc (Setattr g pre a) left home = tt
home_in_place past acc (Rename d n e m g over) left home = tt
home_in_place past acc (Remove d n g pre) left home = λ u. left.made g d n (home (unmoved_past past acc g left u))
  where
    unmoved_past : (past acc : List Record) (x : Fid) → AreLeft past acc → is_undone x acc ≡ true
        → any_record (unbinds x) past ≡ false
    unmoved_past past acc x left u =
        let p = undone_parts x acc u in
        false_from_ne_true _
        (λ h. ⊎_elim (λ (a : any_record (unbinds x) acc ≡ true). false≢true (sym (made_unbinds x acc p.1) ∙ a))
        (λ (b : any_record (creates x) acc ≡ false). false≢true (sym b ∙ p.0)) (left.moved x h))
home_in_place past acc (Rmdir d n g pre) left home = λ u. left.made g d n (home (unmoved_past past acc g left u))
  where
    unmoved_past : (past acc : List Record) (x : Fid) → AreLeft past acc → is_undone x acc ≡ true
        → any_record (unbinds x) past ≡ false
    unmoved_past past acc x left u =
        let p = undone_parts x acc u in
        false_from_ne_true _
        (λ h. ⊎_elim (λ (a : any_record (unbinds x) acc ≡ true). false≢true (sym (made_unbinds x acc p.1) ∙ a))
        (λ (b : any_record (creates x) acc ≡ false). false≢true (sym b ∙ p.0)) (left.moved x h))

pub left_on : (past acc : List Record) (rec : Record) → AreLeft past acc → IsFresh rec.op past
    → AreLeft (past ++ rec ∷ []) (add acc rec)
left_on past acc rec left fresh = record {
  made =
      λ x dir name h. made_added dir name x acc rec (left.made x dir name (made_front dir name x past (rec ∷ []) h))
      ((made_back dir name x past (rec ∷ []) h).0);
  moved = λ x h. ⊎_elim
      (λ (before : any_record (unbinds x) past ≡ true). ⊎_elim
      (λ (a : any_record (unbinds x) acc ≡ true). inl (unbinds_stay x acc rec a))
      (λ (b : any_record (creates x) acc ≡ false). inr (false_from_ne_true _ (λ c. ⊎_elim
      (λ (d : any_record (creates x) acc ≡ true). false≢true (sym b ∙ d))
      (λ (d : creates x rec.op ≡ true). false≢true
      (sym (fresh x d) ∙ any_weaker (unbinds x) (mentioning x) (λ o e. unbinds_mentions o x e) past before))
      (or_cases _ _ (creates_in_add x acc rec c)))))
      (left.moved x before))
      (λ (last : (unbinds x rec.op || false) ≡ true). last_unbinds x acc rec (either_left (unbinds x rec.op) last))
      (or_cases (any_record (unbinds x) past) (unbinds x rec.op || false)
      (sym (any-append (unbinds x) past (rec ∷ [])) ∙ h));
}
  where
    either_left : (b : Bool) → (b || false) ≡ true → b ≡ true
    either_left true e = refl
    either_left false e = e

homes_in_place : (past acc run : List Record) → AreLeft past acc → AllRemoveUnmoved past run → AllCreateFresh past run
    → AllRemoveInPlace acc run
homes_in_place past acc [] left home fresh = tt
homes_in_place past acc (rec ∷ run) left home fresh = (
  home_in_place past acc rec.op left home.0,
  homes_in_place (past ++ rec ∷ []) (add acc rec) run
      (left_on past acc rec left fresh.0) home.1 fresh.1,
)

pub fresh_behind : (past front run : List Record) → AllCreateFresh past (front ++ run) → AllCreateFresh (past ++ front) run
fresh_behind past [] run h = subst (λ l. AllCreateFresh l run) (sym (append-nil past)) h
fresh_behind past (rec ∷ front) run h =
    subst (λ l. AllCreateFresh l run) (append_assoc past (rec ∷ []) front)
    (fresh_behind (past ++ rec ∷ []) front run h.1)

pub homes_are : UnmovedRemovalsAreInPlace
homes_are chunk tail home fresh =
    homes_in_place chunk chunk tail (record { made = λ x dir name h. h; moved = λ x h. inl h }) home
    (fresh_behind [] chunk tail fresh)
