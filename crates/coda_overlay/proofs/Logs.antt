-- The laws of cancellation at one object.
use Rattle.std.proofs.Common.{◌≡◌, ◌≢◌, ℕ, Bool, true, false, cond, ◌||◌, List, [], ◌∷◌, ◌++◌, Option, Some, None}
use Rattle.std.proofs.Common.{refl, sym, ap, ◌∙◌, subst, ⊎_elim}
use Rattle.std.proofs.lemmas.Bool.{cond_both, or_parts, or_cases, false≢true, false_from_ne_true}
use Rattle.std.proofs.lemmas.List.{append-nil}
use Rattle.coda_fid.specs.Fid.{same_fid}
use Rattle.coda_fid.specs.Op.{carried}
use Rattle.coda_fid.specs.declared.fid.Fid.{Fid}
use Rattle.coda_fid.specs.declared.fid.Sid.{Sid}
use Rattle.coda_fid.specs.declared.op.Over.{Over}
use Rattle.coda_fid.specs.declared.op.Op.{Op}
use Rattle.coda_fid.specs.declared.op.Op.TheVariants.{Create, Mkdir, Symlink, Store, Setattr, Remove, Rmdir, Rename}
use Rattle.coda_fid.specs.declared.op.Record.{Record}
use Rattle.coda_tree.specs.declared.node.Node.{Node}
use Rattle.coda_tree.specs.Bindings.{Name}
use Rattle.coda_tree.specs.Volume.{child_of, Edit, removals}
use Rattle.coda_certify.specs.Replay.{effects, sid_of}
use Rattle.coda_cancel.specs.Dropping.{mentioning, creates}
use Rattle.coda_cancel.specs.Cancel.{cancels, without, object, appended, add, is_undone}
use Rattle.coda_cancel.proofs.Additions.{plain_added}
use Rattle.coda_cancel.proofs.Keys.{fid_same, fid_false, fid_other, over_is}
use Rattle.coda_cml.specs.Steady.{any_record}
use Rattle.coda_cml.proofs.runs.UndoneCreations.{undone_parts}
use Rattle.coda_cml.proofs.runs.ThawedFold.{creates_in_add}
use Rattle.coda_cml.proofs.runs.WithoutObject.{any-append}
use Rattle.coda_cml.proofs.volumes.Places.{place, act}
use Rattle.coda_cml.proofs.volumes.Erasing.{IsAside, AreAside}
use Rattle.coda_cml.proofs.volumes.Omitting.{all_aside}
use Rattle.coda_overlay.specs.Objects.{edited_at, all_edited_at, operated_at}
use Rattle.coda_overlay.specs.Overlaying.{FindsItsNames, Overlays, Predates, IsOverlaid, RemovesInPlace}
use Rattle.coda_overlay.specs.Overlaying.{PredatesOperation, IsTailNew}
use Rattle.coda_overlay.specs.Laws.{AdditionsBehindChunksOverlay, UnmentionedCopiesStay, AdditionsOverlay}
use Rattle.coda_overlay.specs.Laws.{ThawsOverlay, FoldsOverlay, UnmentionedCopiesAreAsGiven, UnrelatedFrontsGo}
use Rattle.coda_overlay.proofs.Copies.{edit_is, overlays_joined, overlays_split}
use Rattle.coda_overlay.proofs.Overwriting.{appended_leads}
use Rattle.coda_overlay.proofs.Undoings.{undone_leads}

-- ---- what is created

made_differs : (f x : Fid) (recs : List Record) → any_record (creates f) recs ≡ false
    → any_record (creates x) recs ≡ true → f ≢ x
made_differs f x recs never made e =
    false≢true (sym never ∙ subst (λ y. any_record (creates y) recs ≡ true) (sym e) made)

in_neither : (f : Fid) (recs : List Record) (rec : Record) → any_record (creates f) recs ≡ false
    → creates f rec.op ≡ false → any_record (creates f) (add recs rec) ≡ false
in_neither f recs rec a b =
    false_from_ne_true _ (λ h. ⊎_elim (λ (c : any_record (creates f) recs ≡ true). false≢true (sym a ∙ c))
    (λ (c : creates f rec.op ≡ true). false≢true (sym b ∙ c)) (or_cases _ _ (creates_in_add f recs rec h)))

predates_added : (f : Fid) (given : Option Node) (recs : List Record) (rec : Record) → Predates f given recs
    → PredatesOperation f given rec.op → Predates f given (add recs rec)
predates_added f given recs rec a n = record {
  not_created = in_neither f recs rec a.not_created n.0;
  unbound = λ name fid is. in_neither fid recs rec (a.unbound name fid is) (n.1 name fid is);
}

-- ---- one operation more

-- the removed object is not f, and given doesn't bind it
undone_removal : (f : Fid) (client : ℕ) (given now : Option Node) (recs : List Record) (dir : Fid) (name : Name) (x : Fid) → IsOverlaid f client given recs now → is_undone x recs ≡ true
    → (f ≡ dir → child_of now name ≡ Some x) → RemovesInPlace recs
    (Remove dir name x (record { client = 0; number = 0 })) → Overlays f client given (without x recs)
    (all_edited_at f (removals dir name x) now)
undone_removal f client given now recs dir name x h u here place =
    let made = (undone_parts x recs u).0 in
    undone_leads x f (made_differs f x recs h.predates.not_created made) client dir name recs given now u (place u)
    (λ m is. false≢true (sym (h.predates.unbound m x is) ∙ made)) h.overlays here

removed : (f : Fid) (client : ℕ) (given now : Option Node) (recs : List Record) (t : ℕ) (s : Sid) (op : Op)
    → IsOverlaid f client given recs now → cancels op recs ≡ true → FindsItsNames f now op → RemovesInPlace recs op
    → Overlays f client given (without (object (carried op)) recs) (all_edited_at f (effects t s op) now)
removed f client given now recs t s (Remove d n x pre) h u finds place =
    undone_removal f client given now recs d n x h u finds place
removed f client given now recs t s (Rmdir d n x pre) h u finds place =
    undone_removal f client given now recs d n x h u finds place
removed f client given now recs t s _ h u finds place = absurd (false≢true u)

led_by : (f : Fid) (client : ℕ) (given now : Option Node) (recs : List Record) (rec : Record)
    → IsOverlaid f client given recs now → FindsItsNames f now rec.op → RemovesInPlace recs rec.op
    → Overlays f client given (add recs rec) (operated_at f client rec now)
led_by f client given now recs rec h finds place =
    cond_both (cancels rec.op recs) _ _ (λ l. Overlays f client given l (operated_at f client rec now))
    (λ k. removed f client given now recs rec.time (sid_of client rec) rec.op h k finds place)
    (λ k. go k (carried rec.op) refl)
  where
    plain_one : carried rec.op ≡ None → cancels rec.op recs ≡ false
        → Overlays f client given (appended recs rec) (operated_at f client rec now)
    plain_one e k =
        let same : recs ++ rec ∷ [] ≡ appended recs rec = plain_added recs rec e ∙ ap (λ b. cond b (without (object (carried rec.op)) recs) (appended recs rec)) k in
        subst (λ l. Overlays f client given l (operated_at f client rec now)) same
        (overlays_joined f client given now (operated_at f client rec now) recs (rec ∷ []) h.overlays (finds, refl))

    go : cancels rec.op recs ≡ false → (o : Option Over) → carried rec.op ≡ o
        → Overlays f client given (appended recs rec) (operated_at f client rec now)
    go k None e = plain_one e k
    go k (Some v) e =
        appended_leads f client v.fid rec (ap (over_is v.fid) e ∙ fid_same v.fid v.fid refl) recs given now h.overlays
        finds

pub additions_overlay : AdditionsOverlay
additions_overlay f client given now log rec h finds place new =
    record {
      predates = predates_added f given log rec h.predates new;
      overlays = led_by f client given now log rec h finds place;
    }

-- ---- a run more

predates_front : (f : Fid) (given : Option Node) (recs more : List Record) → Predates f given (recs ++ more)
    → Predates f given recs
predates_front f given recs more h = record {
  not_created = (or_parts _ _ (sym (any-append (creates f) recs more) ∙ h.not_created)).0;
  unbound = λ name fid is. (or_parts _ _ (sym (any-append (creates fid) recs more) ∙ h.unbound name fid is)).0;
}

predates_back : (f : Fid) (given : Option Node) (recs more : List Record) → Predates f given (recs ++ more)
    → Predates f given more
predates_back f given recs more h = record {
  not_created = (or_parts _ _ (sym (any-append (creates f) recs more) ∙ h.not_created)).1;
  unbound = λ name fid is. (or_parts _ _ (sym (any-append (creates fid) recs more) ∙ h.unbound name fid is)).1;
}

predates_both : (f : Fid) (given : Option Node) (recs more : List Record) → Predates f given recs
    → Predates f given more → Predates f given (recs ++ more)
predates_both f given recs more a b = record {
  not_created = any-append (creates f) recs more ∙ (λ i. a.not_created i || b.not_created i);
  unbound =
      λ name fid is. any-append (creates fid) recs more ∙ (λ i. a.unbound name fid is i || b.unbound name fid is i);
}

first_new : (f : Fid) (given : Option Node) (rec : Record) (more : List Record) → Predates f given (rec ∷ more)
    → PredatesOperation f given rec.op
first_new f given rec more h = ((or_parts _ _ h.not_created).0, λ name fid is. (or_parts _ _ (h.unbound name fid is)).0)

rest_predates : (f : Fid) (given : Option Node) (rec : Record) (more : List Record) → Predates f given (rec ∷ more)
    → Predates f given more
rest_predates f given rec more h =
    record {
      not_created = (or_parts _ _ h.not_created).1;
      unbound = λ name fid is. (or_parts _ _ (h.unbound name fid is)).1;
    }

pub thaws_overlay : ThawsOverlay
thaws_overlay f client given now chunk [] h p = subst (λ l. IsOverlaid f client given l now) (append-nil chunk) h
thaws_overlay f client given now chunk (rec ∷ tail) h p =
    let s = overlays_split f client given now chunk (rec ∷ tail) h.overlays in
    let back = predates_back f given chunk (rec ∷ tail) h.predates in
    let one : IsOverlaid f client given (add chunk rec) (operated_at f client rec s.0) =
    additions_overlay f client given s.0 chunk rec
    (record { predates = predates_front f given chunk (rec ∷ tail) h.predates; overlays = s.1 }) s.2.0 p.0
    (first_new f given rec tail back) in
    thaws_overlay f client given now (add chunk rec) tail
    (record {
      predates = predates_both f given (add chunk rec) tail one.predates
          (rest_predates f given rec tail back);
      overlays = overlays_joined f client given (operated_at f client rec s.0) now (add chunk rec) tail one.overlays
          s.2.1;
    }) p.1

pub folds_overlay : FoldsOverlay
folds_overlay f client given now run h p = thaws_overlay f client given now [] run h p

-- ---- records that don't mention the object

edits_elsewhere : (f : Fid) (es : List Edit) → AreAside f es → (o : Option Node) → all_edited_at f es o ≡ o
edits_elsewhere f [] a o = refl
edits_elsewhere f (e ∷ es) a o =
    edits_elsewhere f es a.1 (edited_at f e o)
    ∙ (edit_is f e o ∙ ap (λ b. cond b (act e o) o) (fid_other f (place e) (λ h. a.0.elsewhere (sym h))))

pub unmentioned : (f : Fid) (client : ℕ) (rec : Record) (o : Option Node) → mentioning f rec.op ≡ false
    → operated_at f client rec o ≡ o
unmentioned f client rec o m =
    edits_elsewhere f (effects rec.time (sid_of client rec) rec.op)
    (all_aside f rec.time (sid_of client rec) rec.op m) o

none_lead : (f : Fid) (client : ℕ) (recs : List Record) (o left : Option Node)
    → any_record (mentioning f) recs ≡ false → Overlays f client o recs left → o ≡ left
none_lead f client [] o left m h = h
none_lead f client (rec ∷ recs) o left m h = let k = or_parts _ _ m in sym (unmentioned f client rec o k.0) ∙ none_lead f client recs (operated_at f client rec o) left k.1 h.1

pub clean_as_given : UnmentionedCopiesAreAsGiven
clean_as_given f client given now log h m = sym (none_lead f client log given now m h)

pub fronts_go : UnrelatedFrontsGo
fronts_go f client given now chunk tail h m =
    let s = overlays_split f client given now chunk tail h in
    subst (λ y. Overlays f client y tail now) (sym (none_lead f client chunk given s.0 m s.1)) s.2

mentions_rest : (x : Fid) (client : ℕ) (f : Fid) (recs : List Record) (o left : Option Node)
    → any_record (mentioning x) recs ≡ false → Overlays f client o recs left → (name : Name)
    → child_of left name ≡ Some x → child_of o name ≡ Some x
mentions_rest x client f [] o left m h name is = subst (λ y. child_of y name ≡ Some x) (sym h) is
mentions_rest x client f (rec ∷ recs) o left m h name is =
    let k = or_parts _ _ m in
    back (effects rec.time (sid_of client rec) rec.op) (all_aside x rec.time (sid_of client rec) rec.op k.0) o
    (mentions_rest x client f recs (operated_at f client rec o) left k.1 h.1 name is)
  where
    one : (e : Edit) → IsAside x e → (o : Option Node) → child_of (edited_at f e o) name ≡ Some x
        → child_of o name ≡ Some x
    one e a o h = pick (same_fid f (place e)) (subst (λ y. child_of y name ≡ Some x) (edit_is f e o) h)
      where
        pick : (b : Bool) → child_of (cond b (act e o) o) name ≡ Some x → child_of o name ≡ Some x
        pick true h = a.binds o name h
        pick false h = h

    back : (es : List Edit) → AreAside x es → (o : Option Node) → child_of (all_edited_at f es o) name ≡ Some x
        → child_of o name ≡ Some x
    back [] a o h = h
    back (e ∷ es) a o h = one e a.0 o (back es a.1 (edited_at f e o) h)

-- a removal behind a chunk
removed_behind : (f : Fid) (client : ℕ) (given mid now : Option Node) (chunk tail : List Record) (dir : Fid) (name : Name) (x : Fid) → Predates f given tail → IsTailNew chunk tail → Overlays f client given chunk mid → Overlays f client mid tail now
    → is_undone x tail ≡ true → (f ≡ dir → child_of now name ≡ Some x) → RemovesInPlace tail
    (Remove dir name x (record { client = 0; number = 0 })) → Overlays f client mid (without x tail)
    (all_edited_at f (removals dir name x) now)
removed_behind f client given mid now chunk tail dir name x predates new front back u here place =
    let made = (undone_parts x tail u).0 in
    undone_leads x f (made_differs f x tail predates.not_created made) client dir name tail mid now u (place u)
    (λ m is. false≢true (sym (predates.unbound m x (mentions_rest x client f chunk given mid (new x made) front m is))
    ∙ made)) back here

removed_by : (f : Fid) (client : ℕ) (given mid now : Option Node) (chunk tail : List Record) (t : ℕ) (s : Sid) (op : Op) → Predates f given tail → IsTailNew chunk tail → Overlays f client given chunk mid → Overlays f client mid tail now
    → cancels op tail ≡ true → FindsItsNames f now op → RemovesInPlace tail op → Overlays f client mid
    (without (object (carried op)) tail) (all_edited_at f (effects t s op) now)
removed_by f client given mid now chunk tail t s (Remove d n x pre) predates new front back u finds place =
    removed_behind f client given mid now chunk tail d n x predates new front back u finds place
removed_by f client given mid now chunk tail t s (Rmdir d n x pre) predates new front back u finds place =
    removed_behind f client given mid now chunk tail d n x predates new front back u finds place
removed_by f client given mid now chunk tail t s _ predates new front back u finds place = absurd (false≢true u)

led_behind : (f : Fid) (client : ℕ) (given mid now : Option Node) (chunk tail : List Record) (rec : Record)
    → Predates f given tail → IsTailNew chunk tail → Overlays f client given chunk mid
    → Overlays f client mid tail now
    → FindsItsNames f now rec.op → RemovesInPlace tail rec.op → Overlays f client mid (add tail rec)
    (operated_at f client rec now)
led_behind f client given mid now chunk tail rec predates new front back finds place =
    cond_both (cancels rec.op tail) _ _ (λ l. Overlays f client mid l (operated_at f client rec now))
    (λ k. removed_by f client given mid now chunk tail rec.time (sid_of client rec) rec.op predates new front back k
    finds place)
    (λ k. go k (carried rec.op) refl)
  where
    plain_one : carried rec.op ≡ None → cancels rec.op tail ≡ false
        → Overlays f client mid (appended tail rec) (operated_at f client rec now)
    plain_one e k =
        let same : tail ++ rec ∷ [] ≡ appended tail rec = plain_added tail rec e ∙ ap (λ b. cond b (without (object (carried rec.op)) tail) (appended tail rec)) k in
        subst (λ l. Overlays f client mid l (operated_at f client rec now)) same
        (overlays_joined f client mid now (operated_at f client rec now) tail (rec ∷ []) back (finds, refl))

    go : cancels rec.op tail ≡ false → (o : Option Over) → carried rec.op ≡ o
        → Overlays f client mid (appended tail rec) (operated_at f client rec now)
    go k None e = plain_one e k
    go k (Some v) e =
        appended_leads f client v.fid rec (ap (over_is v.fid) e ∙ fid_same v.fid v.fid refl) tail mid now back finds

pub additions_behind : AdditionsBehindChunksOverlay
additions_behind f client given now chunk tail rec h predates new finds place fresh =
    let s = overlays_split f client given now chunk tail h in (
      overlays_joined f client given s.0 (operated_at f client rec now) chunk (add tail rec) s.1
          (led_behind f client given s.0 now chunk tail rec predates new s.1 s.2 finds place),
      predates_added f given tail rec predates fresh,
    )

-- ---- an object that no record mentions

finds_unmentioned : (f : Fid) (o : Option Node) (op : Op) → mentioning f op ≡ false → FindsItsNames f o op
finds_unmentioned f o (Create d n g mode owner) m = let off = (or_parts _ _ m).0 in record { dir_there = λ e. absurd (fid_false d f off (sym e)); free = λ e. absurd (fid_false d f off (sym e)) }
finds_unmentioned f o (Mkdir d n g mode owner) m = let off = (or_parts _ _ m).0 in record { dir_there = λ e. absurd (fid_false d f off (sym e)); free = λ e. absurd (fid_false d f off (sym e)) }
finds_unmentioned f o (Symlink d n g target mode owner) m = let off = (or_parts _ _ m).0 in record { dir_there = λ e. absurd (fid_false d f off (sym e)); free = λ e. absurd (fid_false d f off (sym e)) }
finds_unmentioned f o (Store g pre content) m = tt
finds_unmentioned f o (Setattr g pre attrs) m = tt
finds_unmentioned f o (Remove d n g pre) m = λ e. absurd (fid_false d f (or_parts _ _ m).0 (sym e))
finds_unmentioned f o (Rmdir d n g pre) m = λ e. absurd (fid_false d f (or_parts _ _ m).0 (sym e))
finds_unmentioned f o (Rename d n e y g over) m = let k = or_parts _ _ m in (λ s. absurd (fid_false d f k.0 (sym s)), λ s. absurd (fid_false e f (or_parts _ _ k.1).0 (sym s)))

unmentioned_leads : (f : Fid) (client : ℕ) (recs : List Record) (o : Option Node)
    → any_record (mentioning f) recs ≡ false → Overlays f client o recs o
unmentioned_leads f client [] o m = refl
unmentioned_leads f client (rec ∷ recs) o m =
    let k = or_parts _ _ m in (
      finds_unmentioned f o rec.op k.0,
      subst (λ y. Overlays f client y recs o) (sym (unmentioned f client rec o k.0))
          (unmentioned_leads f client recs o k.1),
    )

pub unmentioned_stay : UnmentionedCopiesStay
unmentioned_stay f client given log m = unmentioned_leads f client log given m
