-- The changes of all replicas, one replica more.
use Rattle.std.proofs.Common.{◌≡◌, ◌≢◌, ◌<◌, ℕ, ◌+◌, zero, suc, arith, Bool, true, false, not, List, [], ◌∷◌, ◌++◌, length, get_or, take, refl, sym, ap, ◌∙◌, subst, inl, inr, ◌||◌, map}
use Rattle.std.specs.FinMap as finmap
use Rattle.std.specs.FinMap.{is_sorted}
use Rattle.std.specs.List.{AllZip, list_any}
use Rattle.std.specs.List.Sorted.{IsStrictlySortedBy}
use Rattle.std.specs.BTreeMap.{is_at}
use Rattle.std.specs.BTreeSet.{BTreeSet, Updates}
use Rattle.std.proofs.Math.Seq.{take-suc}
use Rattle.std.proofs.lemmas.List.{map-append}
use Rattle.std.proofs.lemmas.Map.Keys.{IsDistinct-from_sorted}
use Rattle.coda_fid.specs.Fid.{fid_cmp}
use Rattle.coda_fid.specs.declared.fid.Fid.{Fid}
use Rattle.coda_reslog.specs.declared.change.Change.{Change}
use Rattle.coda_record.specs.declared.view.View.{View}
use Rattle.coda_resolve.specs.declared.why.Mark.{Mark}
use Rattle.coda_resolve.specs.Resolution.{Objects, Replicas}
use Rattle.coda_resolve.specs.Placement.{IsIn}
use Rattle.coda_resolve.specs.Outcome.{marks_of}
use Rattle.coda_resolve.specs.Counted.{has_fid}
use Rattle.coda_resolve.specs.Changes.{is_among, changed, IsReplicaChange, afterwards, node_of, nodes_at, IsOutcome}
use Rattle.coda_resolve.specs.Renewals.{Tells, IsPart, AreParts, changes_of}
use Rattle.coda_resolve.specs.Views.{objects_of, replicas_of, AreInOrder}
use Rattle.coda_resolve.proofs.Changed.{one_test, among_in, in_among}
use Rattle.coda_resolve.proofs.Renewing.{front_of, set_more}

-- ---- one replica more

zip_more : {A B : Type 0} (R : A → B → Type 0) (xs : List A) (ys : List B) (x : A) (y : B) → AllZip R xs ys → R x y → AllZip R (xs ++ x ∷ []) (ys ++ y ∷ [])
zip_more R [] [] x y a r = (r, tt)
zip_more R [] (z ∷ ys) x y a r = absurd a
zip_more R (z ∷ xs) [] x y a r = absurd a
zip_more R (z ∷ xs) (w ∷ ys) x y a r = (a.0, zip_more R xs ys x y a.1 r)

after_more : (R : Objects → Change → Type 0) (done : Replicas) (changes : List Change) (view : Objects) (change : Change) → AllZip R done changes → afterwards (done ++ view ∷ []) (changes ++ change ∷ []) ≡ afterwards done changes ++ changed view change ∷ []
after_more R [] [] view change a = refl
after_more R [] (c ∷ changes) view change a = absurd a
after_more R (v ∷ done) [] view change a = absurd a
after_more R (v ∷ done) (c ∷ changes) view change a = λ i. changed v c ∷ after_more R done changes view change a.1 i

last_parts : {X : Type 0} (ys xs : List X) (y x : X) → ys ++ y ∷ [] ≡ xs ++ x ∷ [] → (ys ≡ xs) × (y ≡ x)
last_parts [] [] y x e = (refl, cc)
last_parts [] (z ∷ []) y x e = absurd cc
last_parts [] (z ∷ w ∷ xs) y x e = absurd cc
last_parts (z ∷ []) [] y x e = absurd cc
last_parts (z ∷ w ∷ ys) [] y x e = absurd cc
last_parts (z ∷ ys) (w ∷ xs) y x e =
    let first : z ≡ w = cc in
    let rest : ys ++ y ∷ [] ≡ xs ++ x ∷ [] = cc in
    let k = last_parts ys xs y x rest in
    ((λ i. first i ∷ k.0 i), k.1)

tells_more : {X : Type 0} (a b : Bool) (ys xs : List X) (y x : X) → Tells (not a) ys xs → Tells (not b) y x → Tells (not (a || b)) (ys ++ y ∷ []) (xs ++ x ∷ [])
tells_more true b ys xs y x s t = λ e. s (last_parts ys xs y x e).0
tells_more false true ys xs y x s t = λ e. t (last_parts ys xs y x e).1
tells_more false false ys xs y x s t = λ i. s i ++ t i ∷ []

pub part_more : (views : Replicas) (root : Fid) (done : Replicas) (view : Objects) (changes new : List (ℕ × Change)) (server : ℕ) (change : Change) (touched set : BTreeSet Fid) (fids : List Fid) → new ≡ changes ++ (server, change) ∷ [] → ((f : Fid) → has_fid set f ≡ (has_fid touched f || is_among fids f)) → IsPart views root view change fids → AreParts views root done changes touched → AreParts views root (done ++ view ∷ []) new set
part_more views root done view changes new server change touched set fids is added part are = record {
  replicas = subst (AllZip (IsReplicaChange views root) (done ++ view ∷ [])) (sym all) (zip_more (IsReplicaChange views root) done (changes_of changes) view change are.replicas part.replica);
  tells = λ f.
      let now : nodes_at (afterwards (done ++ view ∷ []) (changes_of new)) f ≡ nodes_at (afterwards done (changes_of changes)) f ++ node_of (finmap.get (changed view change) f) ∷ [] =
      ap (λ cs. nodes_at (afterwards (done ++ view ∷ []) cs) f) all
      ∙ ap (λ vs. nodes_at vs f) (after_more (IsReplicaChange views root) done (changes_of changes) view change are.replicas)
      ∙ map-append (λ (v : Objects). node_of (finmap.get v f)) (afterwards done (changes_of changes)) (changed view change ∷ []) in
      let before : nodes_at (done ++ view ∷ []) f ≡ nodes_at done f ++ node_of (finmap.get view f) ∷ [] = map-append (λ (v : Objects). node_of (finmap.get v f)) done (view ∷ []) in
      subst (λ b. Tells (not b) (nodes_at (afterwards (done ++ view ∷ []) (changes_of new)) f) (nodes_at (done ++ view ∷ []) f)) (sym (added f))
      (subst (λ l. Tells (not (has_fid touched f || is_among fids f)) l (nodes_at (done ++ view ∷ []) f)) (sym now)
      (subst (Tells (not (has_fid touched f || is_among fids f)) (nodes_at (afterwards done (changes_of changes)) f ++ node_of (finmap.get (changed view change) f) ∷ [])) (sym before)
      (tells_more (has_fid touched f) (is_among fids f) (nodes_at (afterwards done (changes_of changes)) f) (nodes_at done f) (node_of (finmap.get (changed view change) f)) (node_of (finmap.get view f)) (are.tells f) (part.tells f))));
}
  where
    all : changes_of new ≡ changes_of changes ++ change ∷ []
    all = ap changes_of is ∙ map-append (λ (c : ℕ × Change). c.1) changes ((server, change) ∷ [])

pub no_parts : (views : Replicas) (root : Fid) (done : Replicas) (changes : List (ℕ × Change)) (set : BTreeSet Fid) → done ≡ [] → changes ≡ [] → set.keys ≡ [] → AreParts views root done changes set
no_parts views root done changes set none empty keys = record {
  replicas = subst (λ vs. AllZip (IsReplicaChange views root) vs (changes_of changes)) (sym none) (subst (λ cs. AllZip (IsReplicaChange views root) [] (changes_of cs)) (sym empty) tt);
  tells = λ f. subst (λ b. Tells (not b) (nodes_at (afterwards done (changes_of changes)) f) (nodes_at done f)) (sym (ap (λ ks. list_any (is_at (fid_cmp f)) ks) keys)) (ap (λ vs. nodes_at (afterwards vs (changes_of changes)) f) none ∙ sym (ap (λ vs. nodes_at vs f) none));
}

-- ---- views, by their places

pub view_in : (views : List View) (i : ℕ) (view : View) → i < length views → view ≡ get_or views i view → IsIn (objects_of view) (replicas_of views)
view_in [] i view lt is = absurd (omega arith)
view_in (v ∷ views) zero view lt is = inl (ap objects_of (sym is))
view_in (v ∷ views) (suc i) view lt is = inr (view_in views i view (omega arith) is)

pub view_sorted : (views : List View) (i : ℕ) (view : View) → AreInOrder views → i < length views → view ≡ get_or views i view → is_sorted fid_cmp view.held ≡ true
view_sorted [] i view up lt is = absurd (omega arith)
view_sorted (v ∷ views) zero view up lt is = ap (λ (x : View). is_sorted fid_cmp x.held) is ∙ up.0
view_sorted (v ∷ views) (suc i) view up lt is = view_sorted views i view up.1 (omega arith) is

pub replicas_more : (views : List View) (i : ℕ) (view : View) → i < length views → view ≡ get_or views i view → replicas_of (take (i + 1) views) ≡ replicas_of (take i views) ++ objects_of view ∷ []
replicas_more views i view lt is = ap replicas_of (front_of views i view lt is) ∙ map-append objects_of (take i views) (view ∷ [])

pub servers_more : (views : List View) (i : ℕ) (view : View) (changes new : List (ℕ × Change)) (change : Change) → i < length views → view ≡ get_or views i view → map (λ (c : ℕ × Change). c.0) changes ≡ map (λ (v : View). v.server) (take i views) → new ≡ changes ++ (view.server, change) ∷ [] → map (λ (c : ℕ × Change). c.0) new ≡ map (λ (v : View). v.server) (take (i + 1) views)
servers_more views i view changes new change lt is sofar added =
    ap (map (λ (c : ℕ × Change). c.0)) added
    ∙ map-append (λ (c : ℕ × Change). c.0) changes ((view.server, change) ∷ [])
    ∙ ap (λ front. front ++ view.server ∷ []) sofar
    ∙ sym (ap (map (λ (v : View). v.server)) (front_of views i view lt is) ∙ map-append (λ (v : View). v.server) (take i views) (view ∷ []))

-- ---- how many

has_is_among : (set : BTreeSet Fid) (f : Fid) → has_fid set f ≡ is_among set.keys f
has_is_among set f = by set.keys
  where
    by : (ks : List Fid) → list_any (is_at (fid_cmp f)) ks ≡ is_among ks f
    by [] = refl
    by (k ∷ ks) = λ i. one_test f k i || by ks i

pub counted : (views : Replicas) (root : Fid) (changes : List (ℕ × Change)) (marks : List Mark) (set : BTreeSet Fid) (count : ℕ) → IsStrictlySortedBy fid_cmp set.keys → count ≡ length set.keys → marks ≡ marks_of views root → AreParts views root views changes set → IsOutcome views root (changes_of changes) marks count
counted views root changes marks set count up many new are = record {
  all = are.replicas;
  new = new;
  many = record {
    fids = set.keys;
    distinct = IsDistinct-from_sorted fid_cmp set.keys up;
    each = λ f. (
      (λ s. subst (λ b. Tells (not b) (nodes_at (afterwards views (changes_of changes)) f) (nodes_at views f)) (has_is_among set f ∙ in_among set.keys f s) (are.tells f)),
      (λ other. among_in set.keys f (sym (has_is_among set f) ∙ by f (has_fid set f) refl other)),
    );
    many = sym many;
  };
}
  where
    by : (f : Fid) (b : Bool) → has_fid set f ≡ b → nodes_at (afterwards views (changes_of changes)) f ≢ nodes_at views f → has_fid set f ≡ true
    by f true e other = e
    by f false e other = absurd (other (subst (λ b. Tells (not b) (nodes_at (afterwards views (changes_of changes)) f) (nodes_at views f)) e (are.tells f)))

-- ---- sets

pub fids_seen : (old now new : BTreeSet Fid) (fids : List Fid) (i : ℕ) (d : Fid) → i < length fids → ((g : Fid) → has_fid now g ≡ (has_fid old g || is_among (take i fids) g)) → Updates fid_cmp now new (get_or fids i d) true → (g : Fid) → has_fid new g ≡ (has_fid old g || is_among (take (i + 1) fids) g)
fids_seen old now new fids i d lt sofar updates g =
    set_more old now new (take i fids) (get_or fids i d) sofar updates g
    ∙ ap (λ l. has_fid old g || is_among l g) (sym (let next : i + 1 ≡ suc i = omega arith in ap (λ n. take n fids) next ∙ take-suc fids i d lt))
