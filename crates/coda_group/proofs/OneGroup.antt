-- The replicas of a volume as a group: whatever happens keeps them trees of one kind, with a resolution log exactly
-- at each directory.
use Rattle.std.proofs.Common.{◌≡◌, ℕ, Bool, true, false, ◌||◌, List, [], ◌∷◌, Some, is_some, refl, sym, ap, ◌∙◌}
use Rattle.std.proofs.Common.{subst, inl, inr, ◌⊎◌}
use Rattle.std.specs.FinMap as finmap
use Rattle.std.proofs.lemmas.Bool.{true≢false, false≢true, cases_eq}
use Rattle.coda_fid.specs.Fid.{root_of, same_fid}
use Rattle.coda_fid.specs.declared.fid.Fid.{Fid}
use Rattle.coda_fid.specs.declared.fid.Sid.{Sid}
use Rattle.coda_fid.specs.declared.op.Record.{Record}
use Rattle.coda_fid.proofs.Fids.{same_fid_is, same_fid_refl}
use Rattle.coda_tree.specs.declared.node.Node.{Node}
use Rattle.coda_tree.specs.Bindings.{Name}
use Rattle.coda_reslog.specs.declared.change.Held.{Held}
use Rattle.coda_certify.specs.Replay.{sid_of, applied}
use Rattle.coda_resolve.specs.Settled.{HasKind, is_dir}
use Rattle.coda_resolve.specs.Resolution.{copies_at, has_in}
use Rattle.coda_resolve.specs.Placement.{IsIn}
use Rattle.coda_lineage.specs.Deeds.{deed_at, makes, later_by, version_by}
use Rattle.coda_lineage.specs.Repairs.{IsRepairedAt}
use Rattle.coda_lineage.specs.Lineage.{Group, held_at, AreAmong, IsDecided, IsResolved, IsRepaired}
use Rattle.coda_lineage.proofs.Booleans.{the_some, or_first, or_second}
use Rattle.coda_lineage.proofs.Deciding.{DecidedAt, absent as none_left, came, stayed, decided_at, later_node}
use Rattle.coda_lineage.proofs.RepairedTrees.{RepairedAt, put, went, absent, kept, at as repaired_at}
use Rattle.coda_lineage.proofs.Staying.{IsSoundAt, AreSound, decided_sound, resolved_sound, repaired_sound}
use Rattle.coda_plain.specs.Objects.{Objects}
use Rattle.coda_plain.specs.Cell.{Histories}
use Rattle.coda_group.specs.Groups.{holdings, HasLogIfDirectory, IsCreatedByChunk, IsOneGroup}
use Rattle.coda_group.proofs.Rings.{AreRinged, decided_ringed, installed_ringed, spared_ringed, some_mapped}

-- they are trees of one kind, with a log at each directory
pub record IsStanding (root : Fid) (servers : List ℕ) (group : Group) : Type 0 where
  pub sound : AreSound root servers group
  pub rings : (s : ℕ) → IsIn s servers → AreRinged (group.holds s)

-- ---- what may happen

module _ (root : Fid) (servers : List ℕ) (before : Group) (st : IsStanding root servers before) (server client : ℕ) (rec : Record) (at : IsIn server servers) (after : Group) (step : IsDecided server client rec before after) where
  abbrev view : Objects
  view = before.holds server

  abbrev sid : Sid
  sid = sid_of client rec

  own : IsSoundAt root st.sound.kind before.made view
  own = st.sound.each server at

  dir : HasKind true (finmap.get view root)
  dir = subst (λ b. HasKind b (finmap.get view root)) st.sound.top (own.kinds root)

  by_version : (f : Fid) → ((node : Node) (was : Held) → finmap.get (applied step.decides.nodes client rec) f ≡ Some node → finmap.get view f ≡ Some was → is_dir node.kind ≡ is_dir was.node.kind) → HasLogIfDirectory (finmap.get (after.holds server) f)
  by_version f alike = subst (λ c. HasLogIfDirectory c) (sym (step.decides.left f))
      (decided_ringed server sid (finmap.get (applied step.decides.nodes client rec) f) (finmap.get view f)
      (deed_at view rec.op f) (st.rings server at f) alike)

  ringed_there : AreRinged (after.holds server)
  ringed_there f = by (decided_at root server client rec view (after.holds server) step.decides own.tree dir f)
    where
      by : DecidedAt view (after.holds server) (makes rec.op) f → HasLogIfDirectory (finmap.get (after.holds server) f)
      by (none_left e) = subst (λ c. HasLogIfDirectory c) (sym e) tt
      by (came e) =
          by_version f (λ node was there had. absurd
          (true≢false (sym (own.was_made f (ap is_some had)) ∙ step.new f e)))
      by (stayed old held e h same) = by_version f (λ node was there had.
          let deed = deed_at view rec.op f in
          let is : held ≡ later_by server sid node was deed = the_some held (later_by server sid node was deed)
          (sym h ∙ step.decides.left f ∙ ap (λ o. version_by server sid o (finmap.get view f) deed) there ∙ ap
          (λ o. version_by server sid (Some node) o deed) had) in
          sym (ap (λ (x : Held). is_dir x.node.kind) is ∙ ap (λ (x : Node). is_dir x.kind)
          (later_node server sid node was deed)) ∙ same ∙ ap (λ (x : Held). is_dir x.node.kind)
          (the_some old was (sym e ∙ had)))

  pub decided_stands : IsStanding root servers after
  decided_stands = record {
    sound = decided_sound root servers before st.sound server client rec at after step;
    rings = λ s i. elim (cases_eq s server) [
      | inl same ↦ subst (λ n. AreRinged (after.holds n)) (sym same) ringed_there
      | inr ne ↦ subst AreRinged (sym (step.others s ne)) (st.rings s i)
    ];
  }

pub resolved_stands : (root : Fid) (servers : List ℕ) (before : Group) → IsStanding root servers before
    → (some : List ℕ) → AreAmong some servers → (after : Group) → IsResolved root some before after
    → IsStanding root servers after
resolved_stands root servers before st some among after step = record {
  sound = resolved_sound root servers before st.sound some among after step;
  rings = λ s i. elim (step.each s) [
    | inl same ↦ subst AreRinged (sym same) (st.rings s i)
    | inr left ↦ installed_ringed root servers before some (before.holds s) (after.holds s) st.rings among (st.rings s i) left.1
  ];
}

module _ (root : Fid) (servers : List ℕ) (before : Group) (st : IsStanding root servers before) (some : List ℕ) (among : AreAmong some servers) (source : ℕ) (source_in : IsIn source some) (names : List Name) (after : Group) (step : IsRepaired root some source names before after) where
  ringed_at : (s : ℕ) → IsIn s some → IsRepairedAt step.subtree step.top source (copies_at (held_at before some)) (before.holds source) (before.holds s) (after.holds s) → AreRinged (after.holds s)
  ringed_at s i done f =
      by (repaired_at root (before.holds source) (before.holds s) (after.holds s) step.subtree step.top source
      (copies_at (held_at before some)) names
      (st.sound.each source (among source source_in)).tree (st.sound.each s (among s i)).tree (step.leads s i)
      step.below done f)
    where
      by : RepairedAt step.subtree step.top source (copies_at (held_at before some)) (before.holds source) (before.holds s) (after.holds s) f → HasLogIfDirectory (finmap.get (after.holds s) f)
      by (put held inside r is) =
          let old : HasLogIfDirectory (Some held) = subst (λ c. HasLogIfDirectory c) r (st.rings source (among source source_in) f) in
          subst (λ c. HasLogIfDirectory c) (sym is) (some_mapped _ held.ring ∙ old)
      by (went g outside inside up is) = subst (λ c. HasLogIfDirectory c) (sym is) tt
      by (absent outside e is) = subst (λ c. HasLogIfDirectory c) (sym is) tt
      by (kept held outside e is) =
          subst (λ c. HasLogIfDirectory c) (sym is)
          (spared_ringed step.subtree step.top (Some held)
          (subst (λ c. HasLogIfDirectory c) e (st.rings s (among s i) f)))

  pub repaired_stands : IsStanding root servers after
  repaired_stands = record {
    sound = repaired_sound root servers before st.sound some among source source_in names after step;
    rings = λ s i. elim (step.each s) [
      | inl same ↦ subst AreRinged (sym same) (st.rings s i)
      | inr left ↦ ringed_at s left.0 left.1
    ];
  }

-- ---- the replicas of histories

-- whether one of the replicas holds the object
pub holds_one : (ℕ → Objects) → List ℕ → Fid → Bool
holds_one holds [] f = false
holds_one holds (s ∷ servers) f = has_in (holds s) f || holds_one holds servers f

holds_there : (holds : ℕ → Objects) (servers : List ℕ) (f : Fid) (s : ℕ) → IsIn s servers → has_in (holds s) f ≡ true
    → holds_one holds servers f ≡ true
unfolding holds_one
holds_there holds [] f s i e = absurd i
holds_there holds (t ∷ servers) f s (inl same) e =
    or_first (has_in (holds t) f) (holds_one holds servers f) (ap (λ n. has_in (holds n) f) same ∙ e)
holds_there holds (t ∷ servers) f s (inr i) e =
    or_second (has_in (holds t) f) (holds_one holds servers f) (holds_there holds servers f s i e)

or_true : (a b : Bool) → (a || b) ≡ true → (a ≡ true) ⊎ (b ≡ true)
or_true true b e = inl refl
or_true false b e = inr e

holds_from : (holds : ℕ → Objects) (servers : List ℕ) (f : Fid) → holds_one holds servers f ≡ true
    → (s : ℕ) × (IsIn s servers × (has_in (holds s) f ≡ true))
unfolding holds_one
holds_from holds [] f e = absurd (false≢true e)
holds_from holds (t ∷ servers) f e = elim (or_true (has_in (holds t) f) (holds_one holds servers f) e) [
  | inl here ↦ (t, (inl refl, here))
  | inr later ↦ (let rest = holds_from holds servers f later in (rest.0, (inr rest.1.0, rest.1.1)))
]

-- the root was made, and what some replica holds
abbrev pub made_in : (h : Histories) (servers : List ℕ) (volume : ℕ) → Fid → Bool
made_in h servers volume f = same_fid f (root_of volume) || holds_one (holdings h volume) servers f

abbrev pub group_of : (h : Histories) (servers : List ℕ) (volume : ℕ) → Group
group_of h servers volume = record { holds = holdings h volume; made = made_in h servers volume }

pub stands : (h : Histories) (servers : List ℕ) (volume : ℕ) → IsOneGroup h servers volume
    → IsStanding (root_of volume) servers (group_of h servers volume)
stands h servers volume g = record {
  sound = record {
    kind = g.kind;
    top = g.top;
    root_made =
        or_first (same_fid (root_of volume) (root_of volume)) (holds_one (holdings h volume) servers (root_of volume))
        (same_fid_refl (root_of volume));
    each = λ s i. record {
      tree = (g.each s i).tree;
      kinds = (g.each s i).kinds;
      was_made =
          λ f e. or_second (same_fid f (root_of volume)) (holds_one (holdings h volume) servers f)
          (holds_there (holdings h volume) servers f s i e);
    };
  };
  rings = λ s i. (g.each s i).rings;
}

pub known : (h : Histories) (servers : List ℕ) (volume : ℕ) → IsOneGroup h servers volume → (f : Fid)
    → made_in h servers volume f ≡ true → (f ≡ root_of volume) ⊎ IsCreatedByChunk h volume f
known h servers volume g f e =
    elim (or_true (same_fid f (root_of volume)) (holds_one (holdings h volume) servers f) e) [
      | inl root ↦ inl (same_fid_is f (root_of volume) root)
      | inr held ↦ (let at = holds_from (holdings h volume) servers f held in (g.each at.0 at.1.0).known f at.1.1)
    ]

-- what stands, and of which all that was made is the root or of an applied chunk, is one group
pub one_group : (h : Histories) (servers : List ℕ) (volume : ℕ) (made : Fid → Bool)
    → IsStanding (root_of volume) servers (record { holds = holdings h volume; made = made })
    → ((f : Fid) → made f ≡ true → (f ≡ root_of volume) ⊎ IsCreatedByChunk h volume f) → IsOneGroup h servers volume
one_group h servers volume made st all = record {
  kind = st.sound.kind;
  top = st.sound.top;
  each = λ s i. record {
    tree = (st.sound.each s i).tree;
    kinds = (st.sound.each s i).kinds;
    rings = st.rings s i;
    known = λ f e. all f ((st.sound.each s i).was_made f e);
  };
}
