-- A log stays in place.
use Rattle.std.proofs.Common.{◌≡◌, Bool, true, false, ◌||◌, not, List, [], ◌∷◌, ◌++◌, append_assoc}
use Rattle.std.proofs.Common.{refl, sym, ap, ◌∙◌, subst, ⊎_elim, inl, inr}
use Rattle.std.proofs.lemmas.Bool.{cond_both, and_parts, or_parts, or_cases, or_left, or_right, false≢true}
use Rattle.std.proofs.lemmas.Bool.{false_from_ne_true, cases_Bool}
use Rattle.std.proofs.lemmas.List.{append-nil}
use Rattle.coda_fid.specs.Op.{carried}
use Rattle.coda_fid.specs.declared.fid.Fid.{Fid}
use Rattle.coda_fid.specs.declared.fid.Sid.{Sid}
use Rattle.coda_fid.specs.declared.op.Op.{Op}
use Rattle.coda_fid.specs.declared.op.Op.TheVariants.{Create, Mkdir, Symlink, Store, Setattr, Remove, Rmdir, Rename}
use Rattle.coda_fid.specs.declared.op.Record.{Record}
use Rattle.coda_tree.specs.Bindings.{Name}
use Rattle.coda_tree.specs.Volume.{Nodes}
use Rattle.coda_cancel.specs.Handing.{Debt, nothing, owe, paid, hand, sid_or, with_pre}
use Rattle.coda_cancel.specs.Dropping.{creates, writes, mentioning, drops}
use Rattle.coda_cancel.specs.Cancel.{cancels, without, object, kept, debt, appended, add, added}
use Rattle.coda_cancel.proofs.Debts.{creates-with_pre, mentioning-with_pre}
use Rattle.coda_cml.specs.Steady.{any_record, unbinds, IsFresh}
use Rattle.coda_cml.proofs.runs.AlmostAlike.{drops_write}
use Rattle.coda_cml.proofs.runs.ThawedFold.{creates_in_add}
use Rattle.coda_cml.proofs.runs.UndoneCreations.{all_records, only_made}
use Rattle.coda_cml.proofs.runs.WithoutObject.{any-append, any_kept_sub, any_sub}
use Rattle.coda_cell.proofs.KeptChildren.{unbinds_mentions, any_weaker}
use Rattle.coda_overlay.specs.Overlaying.{AreCreatedAt}
use Rattle.coda_creations.specs.Places.{RemovesUnmoved, AllRemoveUnmoved, AllCreateFresh}
use Rattle.coda_creations.specs.Places.{IsLogInPlace, LogsStayInPlace}
use Rattle.coda_creations.proofs.Placed.{unbinds_none_made, unbinds_no_write, unbinds_with_pre, none_made, kept_unbinds}
use Rattle.coda_creations.proofs.Placed.{kept_made, made_with_pre, made_joined, made_front}
use Rattle.coda_creations.proofs.Placed.{made_back, cancelled, AreLeft, left_on, fresh_behind, accepted_in_place}
use Rattle.coda_creations.proofs.Placed.{places_kept, homes_are}

-- ---- lists behind one another

fresh_joined : (past front run : List Record) → AllCreateFresh past front → AllCreateFresh (past ++ front) run
    → AllCreateFresh past (front ++ run)
fresh_joined past [] run a b = subst (λ l. AllCreateFresh l run) (append-nil past) b
fresh_joined past (rec ∷ front) run a b = (a.0, fresh_joined (past ++ rec ∷ []) front run a.1 (subst (λ l. AllCreateFresh l run) (sym (append_assoc past (rec ∷ []) front)) b))

fresh_front : (past front run : List Record) → AllCreateFresh past (front ++ run) → AllCreateFresh past front
fresh_front past [] run h = tt
fresh_front past (rec ∷ front) run h = (h.0, fresh_front (past ++ rec ∷ []) front run h.1)

unmoved_joined : (past front run : List Record) → AllRemoveUnmoved past front → AllRemoveUnmoved (past ++ front) run
    → AllRemoveUnmoved past (front ++ run)
unmoved_joined past [] run a b = subst (λ l. AllRemoveUnmoved l run) (append-nil past) b
unmoved_joined past (rec ∷ front) run a b = (a.0, unmoved_joined (past ++ rec ∷ []) front run a.1 (subst (λ l. AllRemoveUnmoved l run) (sym (append_assoc past (rec ∷ []) front)) b))

unmoved_front : (past front run : List Record) → AllRemoveUnmoved past (front ++ run) → AllRemoveUnmoved past front
unmoved_front past [] run h = tt
unmoved_front past (rec ∷ front) run h = (h.0, unmoved_front (past ++ rec ∷ []) front run h.1)

unmoved_behind : (past front run : List Record) → AllRemoveUnmoved past (front ++ run) → AllRemoveUnmoved (past ++ front) run
unmoved_behind past [] run h = subst (λ l. AllRemoveUnmoved l run) (sym (append-nil past)) h
unmoved_behind past (rec ∷ front) run h = subst (λ l. AllRemoveUnmoved l run) (append_assoc past (rec ∷ []) front) (unmoved_behind (past ++ rec ∷ []) front run h.1)

-- ---- creations of something new, over fewer records

-- all that the one list mentions the other does
abbrev MentionsLess : List Record → List Record → Type 0
MentionsLess less past = (x : Fid) → any_record (mentioning x) past ≡ false → any_record (mentioning x) less ≡ false

quiet_parts : (x : Fid) (a b : List Record) → any_record (mentioning x) (a ++ b) ≡ false
    → (any_record (mentioning x) a ≡ false) × (any_record (mentioning x) b ≡ false)
quiet_parts x a b h = or_parts _ _ (sym (any-append (mentioning x) a b) ∙ h)

quiet_both : (x : Fid) (a b : List Record) → any_record (mentioning x) a ≡ false → any_record (mentioning x) b ≡ false
    → any_record (mentioning x) (a ++ b) ≡ false
quiet_both x a b h k = any-append (mentioning x) a b ∙ ap (λ c. c || any_record (mentioning x) b) h ∙ k

less_dropped : (less past : List Record) (r : Record) → MentionsLess less past → MentionsLess less (past ++ r ∷ [])
less_dropped less past r l x h = l x (quiet_parts x past (r ∷ []) h).0

less_handed : (less past : List Record) (r : Record) (owed : Debt) → MentionsLess less past → MentionsLess (less ++ hand owed r ∷ []) (past ++ r ∷ [])
less_handed less past r owed l x h =
    let p = quiet_parts x past (r ∷ []) h in
    quiet_both x less (hand owed r ∷ []) (l x p.0) (ap (λ b. b || false) (mentioning-with_pre (λ g q. sid_or (owed g) q) x r.op) ∙ p.1)

less_both : (less past : List Record) (r : Record) → MentionsLess less past → MentionsLess (less ++ r ∷ []) (past ++ r ∷ [])
less_both less past r l x h = let p = quiet_parts x past (r ∷ []) h in quiet_both x less (r ∷ []) (l x p.0) p.1

fresh_less : (less past run : List Record) → MentionsLess less past → AllCreateFresh past run → AllCreateFresh less run
fresh_less less past [] l h = tt
fresh_less less past (rec ∷ run) l h = ((λ x c. l x (h.0 x c)), fresh_less (less ++ rec ∷ []) (past ++ rec ∷ []) run (less_both less past rec l) h.1)

fresh_handed : (owed : Debt) (rec : Record) (past : List Record) → IsFresh rec.op past → IsFresh (hand owed rec).op past
fresh_handed owed rec past f x c = f x (sym (creates-with_pre (λ g q. sid_or (owed g) q) x rec.op) ∙ c)

fresh_kept : (op : Op) (owed : Debt) (less past recs : List Record) → MentionsLess less past → AllCreateFresh past recs
    → AllCreateFresh less (kept (drops op) owed recs)
fresh_kept op owed less past [] l h = tt
fresh_kept op owed less past (r ∷ recs) l h = cond_both (drops op r.op) (kept (drops op) (owe owed (carried r.op)) recs) (hand owed r ∷ kept (drops op) (paid owed (carried r.op)) recs) (AllCreateFresh less)
    (λ d. fresh_kept op (owe owed (carried r.op)) less (past ++ r ∷ []) recs (less_dropped less past r l) h.1)
    (λ d. (fresh_handed owed r less (λ x c. l x (h.0 x c)), fresh_kept op (paid owed (carried r.op)) (less ++ hand owed r ∷ []) (past ++ r ∷ []) recs (less_handed less past r owed l) h.1))

fresh_without : (y : Fid) (less past recs : List Record) → MentionsLess less past → AllCreateFresh past recs
    → AllCreateFresh less (without y recs)
fresh_without y less past [] l h = tt
fresh_without y less past (r ∷ recs) l h = cond_both (mentioning y r.op) (without y recs) (r ∷ without y recs) (AllCreateFresh less)
    (λ d. fresh_without y less (past ++ r ∷ []) recs (less_dropped less past r l) h.1)
    (λ d. ((λ x c. l x (h.0 x c)), fresh_without y (less ++ r ∷ []) (past ++ r ∷ []) recs (less_both less past r l) h.1))

kept_less : (op : Op) (recs : List Record) → MentionsLess (kept (drops op) nothing recs) recs
kept_less op recs x h = false_from_ne_true _ (λ m. false≢true (sym h ∙ any_kept_sub (mentioning x) (λ g o. mentioning-with_pre g x o) (drops op) nothing recs m))

-- an operation more, which creates something new
fresh_added : (front tail : List Record) (rec : Record) → AllCreateFresh front tail → IsFresh rec.op (front ++ tail)
    → AllCreateFresh front (add tail rec)
fresh_added front tail rec h new = cond_both (cancels rec.op tail) (without (object (carried rec.op)) tail) (appended tail rec) (AllCreateFresh front)
    (λ c. fresh_without (object (carried rec.op)) front front tail (λ x q. q) h)
    (λ c. fresh_joined front (kept (drops rec.op) nothing tail) (hand (debt (drops rec.op) nothing tail) rec ∷ []) (fresh_kept rec.op nothing front front tail (λ x q. q) h) (
      fresh_handed (debt (drops rec.op) nothing tail) rec (front ++ kept (drops rec.op) nothing tail)
          (λ x made. (let q = quiet_parts x front tail (new x made) in quiet_both x front (kept (drops rec.op) nothing tail) q.0 (kept_less rec.op tail x q.1))),
      tt,
    ))

-- ---- removals of what wasn't moved, over fewer records

-- what was moved by the one list was by the other, and what it created stands where it was created
record IsThinned (thin past : List Record) : Type 0 where
  made : (x dir : Fid) (name : Name) → AreCreatedAt dir name x past → AreCreatedAt dir name x thin
  moved : (x : Fid) → any_record (unbinds x) past ≡ true → any_record (unbinds x) thin ≡ true

same_thin : (recs : List Record) → IsThinned recs recs
same_thin recs = record { made = λ x d n h. h; moved = λ x h. h }

unmoved_op : (thin past : List Record) (h : Fid → Sid → Sid) (op : Op) → IsThinned thin past → RemovesUnmoved past op
    → RemovesUnmoved thin (with_pre h op)
unmoved_op thin past h (Create d n g mode owner) t r = tt
unmoved_op thin past h (Mkdir d n g mode owner) t r = tt
unmoved_op thin past h (Symlink d n g target mode owner) t r = tt
unmoved_op thin past h (Store g pre content) t r = tt
unmoved_op thin past h (Setattr g pre a) t r = tt
unmoved_op thin past h (Remove d n g pre) t r = λ u. t.made g d n (r (false_from_ne_true _ (λ m. false≢true (sym u ∙ t.moved g m))))
unmoved_op thin past h (Rmdir d n g pre) t r = λ u. t.made g d n (r (false_from_ne_true _ (λ m. false≢true (sym u ∙ t.moved g m))))
unmoved_op thin past h (Rename d n e m g over) t r = tt

unmoved_same : (thin past : List Record) (op : Op) → IsThinned thin past → RemovesUnmoved past op → RemovesUnmoved thin op
unmoved_same thin past (Create d n g mode owner) t r = tt
unmoved_same thin past (Mkdir d n g mode owner) t r = tt
unmoved_same thin past (Symlink d n g target mode owner) t r = tt
unmoved_same thin past (Store g pre content) t r = tt
unmoved_same thin past (Setattr g pre a) t r = tt
unmoved_same thin past (Remove d n g pre) t r = λ u. t.made g d n (r (false_from_ne_true _ (λ m. false≢true (sym u ∙ t.moved g m))))
unmoved_same thin past (Rmdir d n g pre) t r = λ u. t.made g d n (r (false_from_ne_true _ (λ m. false≢true (sym u ∙ t.moved g m))))
unmoved_same thin past (Rename d n e m g over) t r = tt

-- a record that moves nothing goes
thin_dropped : (thin past : List Record) (r : Record) → ((x : Fid) → unbinds x r.op ≡ true → ⊥) → IsThinned thin past
    → IsThinned thin (past ++ r ∷ [])
thin_dropped thin past r none t = record {
  made = λ x d n h. t.made x d n (made_front d n x past (r ∷ []) h);
  moved = λ x h. ⊎_elim
      (λ (a : any_record (unbinds x) past ≡ true). t.moved x a)
      (λ (b : (unbinds x r.op || false) ≡ true). absurd (none x (alone (unbinds x r.op) b)))
      (or_cases (any_record (unbinds x) past) (unbinds x r.op || false) (sym (any-append (unbinds x) past (r ∷ [])) ∙ h));
}
  where
    alone : (b : Bool) → (b || false) ≡ true → b ≡ true
    alone true e = refl
    alone false e = e

-- a record stays, with what it is owed
thin_handed : (thin past : List Record) (r : Record) (owed : Debt) → IsThinned thin past
    → IsThinned (thin ++ hand owed r ∷ []) (past ++ r ∷ [])
thin_handed thin past r owed t = record {
  made = λ x d n h. made_joined d n x thin (hand owed r ∷ []) (t.made x d n (made_front d n x past (r ∷ []) h))
      ((λ c. made_with_pre d n (λ g q. sid_or (owed g) q) r.op ((made_back d n x past (r ∷ []) h).0 (sym (creates-with_pre (λ g q. sid_or (owed g) q) x r.op) ∙ c))), tt);
  moved = λ x h. any-append (unbinds x) thin (hand owed r ∷ []) ∙ ⊎_elim
      (λ (a : any_record (unbinds x) past ≡ true). or_left (any_record (unbinds x) thin) _ (t.moved x a))
      (λ (b : (unbinds x r.op || false) ≡ true). or_right (any_record (unbinds x) thin) _ (ap (λ c. c || false) (unbinds_with_pre x (λ g q. sid_or (owed g) q) r.op) ∙ b))
      (or_cases (any_record (unbinds x) past) (unbinds x r.op || false) (sym (any-append (unbinds x) past (r ∷ [])) ∙ h));
}

thin_both : (thin past : List Record) (r : Record) → IsThinned thin past → IsThinned (thin ++ r ∷ []) (past ++ r ∷ [])
thin_both thin past r t = record {
  made = λ x d n h. made_joined d n x thin (r ∷ []) (t.made x d n (made_front d n x past (r ∷ []) h)) (made_back d n x past (r ∷ []) h);
  moved = λ x h. any-append (unbinds x) thin (r ∷ []) ∙ ⊎_elim
      (λ (a : any_record (unbinds x) past ≡ true). or_left (any_record (unbinds x) thin) _ (t.moved x a))
      (λ (b : any_record (unbinds x) (r ∷ []) ≡ true). or_right (any_record (unbinds x) thin) _ b)
      (or_cases (any_record (unbinds x) past) (any_record (unbinds x) (r ∷ [])) (sym (any-append (unbinds x) past (r ∷ [])) ∙ h));
}

unmoved_kept : (op : Op) (owed : Debt) (thin past recs : List Record) → IsThinned thin past → AllRemoveUnmoved past recs
    → AllRemoveUnmoved thin (kept (drops op) owed recs)
unmoved_kept op owed thin past [] t h = tt
unmoved_kept op owed thin past (r ∷ recs) t h = cond_both (drops op r.op) (kept (drops op) (owe owed (carried r.op)) recs) (hand owed r ∷ kept (drops op) (paid owed (carried r.op)) recs) (AllRemoveUnmoved thin)
    (λ d. unmoved_kept op (owe owed (carried r.op)) thin (past ++ r ∷ []) recs (thin_dropped thin past r (λ x u. false≢true (sym (unbinds_no_write x r.op u) ∙ drops_write op r.op d)) t) h.1)
    (λ d. (unmoved_op thin past (λ g q. sid_or (owed g) q) r.op t h.0, unmoved_kept op (paid owed (carried r.op)) (thin ++ hand owed r ∷ []) (past ++ r ∷ []) recs (thin_handed thin past r owed t) h.1))

unmoved_without : (y : Fid) (thin past recs : List Record) → all_records (only_made y) recs ≡ true → IsThinned thin past
    → AllRemoveUnmoved past recs → AllRemoveUnmoved thin (without y recs)
unmoved_without y thin past [] m t h = tt
unmoved_without y thin past (r ∷ recs) m t h = cond_both (mentioning y r.op) (without y recs) (r ∷ without y recs) (AllRemoveUnmoved thin)
    (λ d. unmoved_without y thin (past ++ r ∷ []) recs (and_parts _ _ m).1
    (thin_dropped thin past r (λ x u. unbinds_none_made x y r.op u (ap (λ b. not b || (creates y r.op || writes y r.op)) (sym d) ∙ (and_parts _ _ m).0)) t) h.1)
    (λ d. (unmoved_same thin past r.op t h.0, unmoved_without y (thin ++ r ∷ []) (past ++ r ∷ []) recs (and_parts _ _ m).1 (thin_both thin past r t) h.1))

-- an operation more, that removes what wasn't moved from where it was created
unmoved_added : (front tail : List Record) (rec : Record) → AllRemoveUnmoved front tail → RemovesUnmoved (front ++ tail) rec.op
    → AllRemoveUnmoved front (add tail rec)
unmoved_added front tail rec h r = cond_both (cancels rec.op tail) (without (object (carried rec.op)) tail) (appended tail rec) (AllRemoveUnmoved front)
    (λ c. unmoved_without (object (carried rec.op)) front front tail (cancelled (object (carried rec.op)) rec.op tail c).0 (same_thin front) h)
    (λ c. unmoved_joined front (kept (drops rec.op) nothing tail) (hand (debt (drops rec.op) nothing tail) rec ∷ []) (unmoved_kept rec.op nothing front front tail (same_thin front) h) (
      unmoved_op (front ++ kept (drops rec.op) nothing tail) (front ++ tail) (λ g q. sid_or (debt (drops rec.op) nothing tail g) q) rec.op (record {
        made = λ x d n a. made_joined d n x front (kept (drops rec.op) nothing tail) (made_front d n x front tail a) (kept_made d n x rec.op nothing tail (made_back d n x front tail a));
        moved = λ x u. any-append (unbinds x) front (kept (drops rec.op) nothing tail) ∙ ⊎_elim
            (λ (a : any_record (unbinds x) front ≡ true). or_left (any_record (unbinds x) front) _ a)
            (λ (b : any_record (unbinds x) tail ≡ true). or_right (any_record (unbinds x) front) _ (kept_unbinds x rec.op nothing tail b))
            (or_cases (any_record (unbinds x) front) (any_record (unbinds x) tail) (sym (any-append (unbinds x) front tail) ∙ u));
      }) r,
      tt,
    ))

-- ---- a chunk that is no longer counted

-- what the tail creates the chunk doesn't mention
made_later : (past tail : List Record) (x : Fid) → AllCreateFresh past tail → any_record (creates x) tail ≡ true
    → any_record (mentioning x) past ≡ false
made_later past [] x h c = absurd (false≢true c)
made_later past (rec ∷ tail) x h c = ⊎_elim
    (λ (a : creates x rec.op ≡ true). h.0 x a)
    (λ (b : any_record (creates x) tail ≡ true). (quiet_parts x past (rec ∷ []) (made_later (past ++ rec ∷ []) tail x h.1 b)).0)
    (or_cases (creates x rec.op) (any_record (creates x) tail) c)

not_unbound : (x : Fid) (recs : List Record) → any_record (mentioning x) recs ≡ false → any_record (unbinds x) recs ≡ false
not_unbound x recs q = false_from_ne_true _ (λ u. false≢true (sym q ∙ any_weaker (unbinds x) (mentioning x) (λ o e. unbinds_mentions o x e) recs u))

-- the records before an operation of the tail: those of the chunk, and those of the tail
module _ (chunk : List Record) where
  created_alone : (before : List Record) (dir : Fid) (name : Name) (x : Fid) → AllCreateFresh chunk before
      → (any_record (unbinds x) (chunk ++ before) ≡ false → AreCreatedAt dir name x (chunk ++ before))
      → any_record (unbinds x) before ≡ false → AreCreatedAt dir name x before
  created_alone before dir name x fresh at u = elim (cases_Bool (any_record (creates x) before)) [
    | inl made ↦
        let q = made_later chunk before x fresh made in
        made_back dir name x chunk before (at (any-append (unbinds x) chunk before ∙ ap (λ b. b || any_record (unbinds x) before) (not_unbound x chunk q) ∙ u))
    | inr never ↦ none_made dir name x before never
  ]

  removal_alone : (before : List Record) (op : Op) → AllCreateFresh chunk before → RemovesUnmoved (chunk ++ before) op
      → RemovesUnmoved before op
  removal_alone before (Create d n g mode owner) fresh r = tt
  removal_alone before (Mkdir d n g mode owner) fresh r = tt
  removal_alone before (Symlink d n g target mode owner) fresh r = tt
  removal_alone before (Store g pre content) fresh r = tt
  removal_alone before (Setattr g pre a) fresh r = tt
  removal_alone before (Remove d n g pre) fresh r = created_alone before d n g fresh r
  removal_alone before (Rmdir d n g pre) fresh r = created_alone before d n g fresh r
  removal_alone before (Rename d n e m g over) fresh r = tt

  tail_alone : (before tail : List Record) → AllCreateFresh chunk before → AllCreateFresh (chunk ++ before) tail
      → AllRemoveUnmoved (chunk ++ before) tail → AllRemoveUnmoved before tail
  tail_alone before [] f g h = tt
  tail_alone before (rec ∷ tail) f g h = (
    removal_alone before rec.op f h.0,
    tail_alone (before ++ rec ∷ []) tail (fresh_joined chunk before (rec ∷ []) f (g.0, tt))
        (subst (λ l. AllCreateFresh l tail) (append_assoc chunk before (rec ∷ [])) g.1)
        (subst (λ l. AllRemoveUnmoved l tail) (append_assoc chunk before (rec ∷ [])) h.1),
  )

settled : (m : Nodes) (chunk tail : List Record) → IsLogInPlace m chunk tail → IsLogInPlace m [] tail
settled m chunk tail is =
    let fresh : AllCreateFresh chunk tail = fresh_behind [] chunk tail is.fresh in
    record {
      fresh = fresh_less [] chunk tail (λ x q. refl) fresh;
      unmoved = tail_alone chunk [] tail tt (subst (λ l. AllCreateFresh l tail) (sym (append-nil chunk)) fresh) (subst (λ l. AllRemoveUnmoved l tail) (sym (append-nil chunk)) (unmoved_behind [] chunk tail is.unmoved));
      placed = λ x dir name made u bound. created_alone chunk tail dir name x fresh
          (λ v. is.placed x dir name (any-append (creates x) chunk tail ∙ or_right (any_record (creates x) chunk) (any_record (creates x) tail) made) v bound) u;
    }

-- ---- a tail that comes back

-- what was removed unmoved by the past is so by what is left of it
at_left : (past acc : List Record) (d : Fid) (n : Name) (g : Fid) → AreLeft past acc
    → (any_record (unbinds g) past ≡ false → AreCreatedAt d n g past) → any_record (unbinds g) acc ≡ false
    → AreCreatedAt d n g acc
at_left past acc d n g left r u = elim (cases_Bool (any_record (unbinds g) past)) [
  | inl moved ↦ elim (left.moved g moved) [
    | inl still ↦ absurd (false≢true (sym u ∙ still))
    | inr gone ↦ none_made d n g acc gone
  ]
  | inr unmoved ↦ left.made g d n (r unmoved)
]

unmoved_left : (past acc : List Record) (op : Op) → AreLeft past acc → RemovesUnmoved past op → RemovesUnmoved acc op
unmoved_left past acc (Create d n g mode owner) left r = tt
unmoved_left past acc (Mkdir d n g mode owner) left r = tt
unmoved_left past acc (Symlink d n g target mode owner) left r = tt
unmoved_left past acc (Store g pre content) left r = tt
unmoved_left past acc (Setattr g pre a) left r = tt
unmoved_left past acc (Remove d n g pre) left r = at_left past acc d n g left r
unmoved_left past acc (Rmdir d n g pre) left r = at_left past acc d n g left r
unmoved_left past acc (Rename d n e m g over) left r = tt

record IsBack (past acc run : List Record) : Type 0 where
  left : AreLeft (past ++ run) (added acc run)
  unmoved : AllRemoveUnmoved [] (added acc run)
  fresh : AllCreateFresh [] (added acc run)

-- what is left mentions no more than the past did
seen_on : (past acc : List Record) (rec : Record) → MentionsLess acc past → MentionsLess (add acc rec) (past ++ rec ∷ [])
seen_on past acc rec l x q =
    let p = quiet_parts x past (rec ∷ []) q in
    cond_both (cancels rec.op acc) (without (object (carried rec.op)) acc) (appended acc rec) (λ r. any_record (mentioning x) r ≡ false)
    (λ c. false_from_ne_true _ (λ h. false≢true (sym (l x p.0) ∙ any_sub (mentioning x) (object (carried rec.op)) acc h)))
    (λ c. quiet_both x (kept (drops rec.op) nothing acc) (hand (debt (drops rec.op) nothing acc) rec ∷ []) (kept_less rec.op acc x (l x p.0))
    (ap (λ b. b || false) (mentioning-with_pre (λ g w. sid_or (debt (drops rec.op) nothing acc g) w) x rec.op) ∙ p.1))

back : (past acc run : List Record) → AreLeft past acc → MentionsLess acc past → AllRemoveUnmoved [] acc
    → AllCreateFresh [] acc → AllRemoveUnmoved past run → AllCreateFresh past run → IsBack past acc run
back past acc [] left less u f h g = record { left = subst (λ l. AreLeft l acc) (sym (append-nil past)) left; unmoved = u; fresh = f }
back past acc (rec ∷ run) left less u f h g =
    let rest = back (past ++ rec ∷ []) (add acc rec) run (left_on past acc rec left g.0) (seen_on past acc rec less)
    (unmoved_added [] acc rec u (unmoved_left past acc rec.op left h.0))
    (fresh_added [] acc rec f (λ x c. less x (g.0 x c))) h.1 g.1 in
    record { left = subst (λ l. AreLeft l (added acc (rec ∷ run))) (append_assoc past (rec ∷ []) run) rest.left; unmoved = rest.unmoved; fresh = rest.fresh }

created_before : (acc run : List Record) (x : Fid) → any_record (creates x) (added acc run) ≡ true
    → any_record (creates x) (acc ++ run) ≡ true
created_before acc [] x h = subst (λ l. any_record (creates x) l ≡ true) (sym (append-nil acc)) h
created_before acc (rec ∷ run) x h = any-append (creates x) acc (rec ∷ run) ∙ ⊎_elim
    (λ (a : any_record (creates x) (add acc rec) ≡ true). ⊎_elim
    (λ (b : any_record (creates x) acc ≡ true). or_left (any_record (creates x) acc) _ b)
    (λ (b : creates x rec.op ≡ true). or_right (any_record (creates x) acc) _ (or_left (creates x rec.op) _ b))
    (or_cases (any_record (creates x) acc) (creates x rec.op) (creates_in_add x acc rec a)))
    (λ (a : any_record (creates x) run ≡ true). or_right (any_record (creates x) acc) _ (or_right (creates x rec.op) _ a))
    (or_cases (any_record (creates x) (add acc rec)) (any_record (creates x) run) (sym (any-append (creates x) (add acc rec) run) ∙ created_before (add acc rec) run x h))

thawed : (m : Nodes) (chunk tail : List Record) → IsLogInPlace m chunk tail → IsLogInPlace m [] (added chunk tail)
thawed m chunk tail is =
    let b = back chunk chunk tail (record { made = λ x d n h. h; moved = λ x h. inl h }) (λ x q. q)
    (unmoved_front [] chunk tail is.unmoved) (fresh_front [] chunk tail is.fresh) (unmoved_behind [] chunk tail is.unmoved) (fresh_behind [] chunk tail is.fresh) in
    record {
      fresh = b.fresh;
      unmoved = b.unmoved;
      placed = λ x dir name made u bound. b.left.made x dir name (is.placed x dir name (created_before chunk tail x made) (false_from_ne_true _ (λ h. ⊎_elim
          (λ (still : any_record (unbinds x) (added chunk tail) ≡ true). false≢true (sym u ∙ still))
          (λ (gone : any_record (creates x) (added chunk tail) ≡ false). false≢true (sym gone ∙ made))
          (b.left.moved x h))) bound);
    }

pub logs_in_place : LogsStayInPlace
logs_in_place = record {
  operated = λ c volume ask rec front tail accepted new unseen is. record {
    fresh = fresh_joined [] front (add tail rec) (fresh_front [] front tail is.fresh) (fresh_added front tail rec (fresh_behind [] front tail is.fresh) new);
    unmoved = unmoved_joined [] front (add tail rec) (unmoved_front [] front tail is.unmoved)
        (unmoved_added front tail rec (unmoved_behind [] front tail is.unmoved) (accepted_in_place c volume ask rec.op (front ++ tail) accepted is.placed).1);
    placed = places_kept.operated c.held.nodes c.number rec front tail unseen is.placed;
  };
  fetched = λ m fid node front tail none is. record { fresh = is.fresh; unmoved = is.unmoved; placed = places_kept.fetched m fid node (front ++ tail) none is.placed };
  dropped = λ m fid front tail is. record { fresh = is.fresh; unmoved = is.unmoved; placed = places_kept.dropped m fid (front ++ tail) is.placed };
  frozen = λ m front back is. record { fresh = is.fresh; unmoved = is.unmoved; placed = is.placed };
  settled = settled;
  thawed = thawed;
  comes_back = λ m chunk tail is. homes_are chunk tail (unmoved_behind [] chunk tail is.unmoved) is.fresh;
}
