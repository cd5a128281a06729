-- An operation behind drops leaves what these drops leave behind it.
use Rattle.std.proofs.Common.{◌≡◌, ◌≢◌, ℕ, zero, suc, ◌-◌, ◌≤◌, Bool, true, false, cond, not, ◌||◌, List, [], ◌∷◌, ◌++◌, Option, Some, None, is_some, refl, sym, ap, ◌∙◌, subst, inl, inr, arith}
use Rattle.std.proofs.lemmas.Bool.{or_left, or_right, or_parts, or_cases, false≢true}
use Rattle.std.specs.Option.{option_map_or}
use Rattle.std.specs.FinMap as map
use Rattle.std.specs.FinMap.{FinMap}
use Rattle.coda_fid.specs.Fid.{fid_cmp, same_fid}
use Rattle.coda_fid.specs.Op.{over_fids, fids_of}
use Rattle.coda_fid.specs.declared.fid.Fid.{Fid}
use Rattle.coda_fid.specs.declared.fid.Sid.{Sid}
use Rattle.coda_fid.specs.declared.op.Over.{Over}
use Rattle.coda_fid.specs.declared.op.Op.{Op}
use Rattle.coda_fid.specs.declared.op.Op.TheVariants.{Create, Mkdir, Symlink, Store, Setattr, Remove, Rmdir, Rename}
use Rattle.coda_fid.specs.declared.op.Record.{Record}
use Rattle.coda_fid.proofs.Fids.{fids_total, exact_fids, same_fid_refl}
use Rattle.coda_tree.specs.declared.node.Node.{Node}
use Rattle.coda_tree.specs.Volume.{Nodes, has, IsDirNode, IsDirAt, Edit, Put, Bind, TakeOut, Unbind, Write, changed_at, changed, edited, edited_all}
use Rattle.coda_tree.proofs.Order.{fid_cases, get_here, get_else, gone_here, gone_else}
use Rattle.coda_certify.specs.Replay.{effects, sid_of, applied}
use Rattle.coda_cancel.proofs.Keys.{fid_true, fid_false, fid_other}
use Rattle.coda_walk.specs.Going.{is_listed}
use Rattle.coda_cache.specs.Parents.{below_within}
use Rattle.coda_cache.specs.Steps.{taken_from}
use Rattle.coda_cache.proofs.ParentsWays.{within_alike}
use Rattle.coda_cache.proofs.Taken.{taken_at}
use Rattle.coda_record.specs.declared.entry.ClientEntry.{ClientEntry}
use Rattle.coda_record.specs.declared.entry.ClientEntry.TheVariants as entry
use Rattle.coda_venus.specs.Accepting.{Sight, sight_of}
use Rattle.coda_venus.specs.Held.{Held, Parents, is_below, parents_after, taken_out, stays, held_without, held_after_operation, held_after_drop, held_after_drops}
use Rattle.coda_venus.specs.History.{MayEnterAll}
use Rattle.coda_venus.specs.Operating.{MayBegin}
use Rattle.coda_venus.specs.Rounds.{dropping}
use Rattle.coda_venus.specs.State.{ClientState, client_after, client_after_all}
use Rattle.coda_venus.proofs.Accepted.{Relies, accepted_relies}
use Rattle.coda_venus.proofs.Installed.{client_dropped}

-- what is held without these
abbrev pub held_but : Held → List Fid → Held
held_but held gone = record { nodes = taken_from held.nodes gone; parents = taken_from held.parents gone }

-- the client that holds this
abbrev pub but_these : ClientState → List Fid → ClientState
but_these c gone = record c { held = held_but c.held gone }

-- ---- drops

-- dropping in turn is taking out
but_is : (held : Held) (gone : List Fid) → held_after_drops held gone ≡ held_but held gone
but_is held [] = refl
but_is held (g ∷ gone) = but_is (held_after_drop held g) gone

client_but : (c : ClientState) (gone : List Fid) (rest : List ClientEntry)
    → client_after_all c (dropping gone ++ rest) ≡ client_after_all (but_these c gone) rest
client_but c gone rest = client_dropped c gone rest ∙ ap (λ h. client_after_all (record c { held = h }) rest) (but_is c.held gone)

-- what comes behind may enter once they are gone
pub rest_may : (c : ClientState) (gone : List Fid) (rest : List ClientEntry) → MayEnterAll c (dropping gone ++ rest)
    → MayEnterAll (but_these c gone) rest
rest_may c [] rest may = may
rest_may c (g ∷ gone) rest may = rest_may (client_after c (entry.Dropped g)) gone rest may.1

-- no one that stays is cached under one that goes
pub parents_stay : (c : ClientState) (gone : List Fid) (rest : List ClientEntry) → MayEnterAll c (dropping gone ++ rest)
    → (f p : Fid) → is_listed gone f ≡ false → map.get c.held.parents f ≡ Some p → is_listed gone p ≡ false
parents_stay c [] rest may f p out at = refl
parents_stay c (g ∷ gone) rest may f p out at =
    let o = or_parts (same_fid g f) (is_listed gone f) out in
    let later = parents_stay (client_after c (entry.Dropped g)) gone rest may.1 f p o.1
    (gone_else fids_total exact_fids c.held.parents g f (λ same. fid_false g f o.0 (sym same)) ∙ at) in
    ap (λ b. b || is_listed gone p) (fid_other g p (λ same. may.0.2 f (at ∙ ap Some (sym same)))) ∙ later

-- each that goes is cached before
pub gone_there : (c : ClientState) (gone : List Fid) (rest : List ClientEntry) → MayEnterAll c (dropping gone ++ rest)
    → (f : Fid) → is_listed gone f ≡ true → has c.held.nodes f ≡ true
gone_there c [] rest may f on = absurd (false≢true on)
gone_there c (g ∷ gone) rest may f on = elim (or_cases (same_fid g f) (is_listed gone f) on) [
  | inl same ↦ ap (has c.held.nodes) (sym (fid_true g f same)) ∙ may.0.0
  | inr later ↦ was (gone_there (client_after c (entry.Dropped g)) gone rest may.1 f later)
]
  where
    was : has (map.remove c.held.nodes g) f ≡ true → has c.held.nodes f ≡ true
    was left = elim (fid_cases f g) [
      | inl same ↦ absurd (false≢true (sym (ap is_some (ap (map.get (map.remove c.held.nodes g)) same ∙ gone_here fids_total c.held.nodes g)) ∙ left))
      | inr other ↦ ap is_some (sym (gone_else fids_total exact_fids c.held.nodes g f other)) ∙ left
    ]

-- ---- changes of others, and what goes

module _ {X : Type 0} (m : FinMap fid_cmp X) (gone : List Fid) (f : Fid) where
  put_out : (x : X) → is_listed gone f ≡ false → map.insert (taken_from m gone) f x ≡ taken_from (map.insert m f x) gone
  put_out x out = map.same_map fids_total exact_fids _ _ (λ q. elim (fid_cases q f) [
    | inl same ↦ ap (map.get (map.insert (taken_from m gone) f x)) same ∙ get_here fids_total (taken_from m gone) f x
        ∙ sym (ap (map.get (taken_from (map.insert m f x) gone)) same ∙ taken_at (map.insert m f x) gone f
        ∙ ap (λ b. cond b None (map.get (map.insert m f x) f)) out ∙ get_here fids_total m f x)
    | inr off ↦ get_else fids_total exact_fids (taken_from m gone) f x q off ∙ taken_at m gone q
        ∙ sym (taken_at (map.insert m f x) gone q ∙ ap (λ o. cond (is_listed gone q) None o) (get_else fids_total exact_fids m f x q off))
  ])

  gone_out : map.remove (taken_from m gone) f ≡ taken_from (map.remove m f) gone
  gone_out = map.same_map fids_total exact_fids _ _ (λ q. elim (fid_cases q f) [
    | inl same ↦ ap (map.get (map.remove (taken_from m gone) f)) same ∙ gone_here fids_total (taken_from m gone) f
        ∙ sym (ap (map.get (taken_from (map.remove m f) gone)) same ∙ taken_at (map.remove m f) gone f
        ∙ ap (λ o. cond (is_listed gone f) None o) (gone_here fids_total m f) ∙ none (is_listed gone f))
    | inr off ↦ gone_else fids_total exact_fids (taken_from m gone) f q off ∙ taken_at m gone q
        ∙ sym (taken_at (map.remove m f) gone q ∙ ap (λ o. cond (is_listed gone q) None o) (gone_else fids_total exact_fids m f q off))
  ])
    where
      none : (b : Bool) → (let o : Option X = cond b None None in o) ≡ None
      none true = refl
      none false = refl

  same_out : is_listed gone f ≡ false → map.get (taken_from m gone) f ≡ map.get m f
  same_out out = taken_at m gone f ∙ ap (λ b. cond b None (map.get m f)) out

changed_out : (m : Nodes) (gone : List Fid) (f : Fid) (change : Node → Node) → is_listed gone f ≡ false
    → changed (taken_from m gone) f change ≡ taken_from (changed m f change) gone
changed_out m gone f change out =
    ap (λ o. changed_at o (taken_from m gone) f change) (same_out m gone f out) ∙ by (map.get m f)
  where
    by : (o : Option Node) → changed_at o (taken_from m gone) f change ≡ taken_from (changed_at o m f change) gone
    by None = refl
    by (Some node) = put_out m gone f (change node) out

-- the fid at which an edit changes something
abbrev place_of : Edit → Fid
place_of (Put f node) = f
place_of (Bind d name f) = d
place_of (TakeOut f) = f
place_of (Unbind d name) = d
place_of (Write f patch sid) = f

-- no edit changes something at one of these
abbrev AreOutside : List Fid → List Edit → Type 0
AreOutside gone [] = Unit {0}
AreOutside gone (e ∷ edits) = (is_listed gone (place_of e) ≡ false) × AreOutside gone edits

edit_out : (m : Nodes) (gone : List Fid) (e : Edit) → is_listed gone (place_of e) ≡ false
    → edited (taken_from m gone) e ≡ taken_from (edited m e) gone
edit_out m gone (Put f node) out = put_out m gone f node out
edit_out m gone (Bind d name f) out = changed_out m gone d _ out
edit_out m gone (TakeOut f) out = gone_out m gone f
edit_out m gone (Unbind d name) out = changed_out m gone d _ out
edit_out m gone (Write f patch sid) out = changed_out m gone f _ out

edits_out : (m : Nodes) (gone : List Fid) (edits : List Edit) → AreOutside gone edits
    → edited_all (taken_from m gone) edits ≡ taken_from (edited_all m edits) gone
edits_out m gone [] out = refl
edits_out m gone (e ∷ edits) out =
    ap (λ n. edited_all n edits) (edit_out m gone e out.0) ∙ edits_out (edited m e) gone edits out.1

-- ---- an operation

-- an operation mentions none of these
abbrev pub AreAside : List Fid → Op → Type 0
AreAside gone op = (f : Fid) → is_listed (fids_of op) f ≡ true → is_listed gone f ≡ false

first : (f : Fid) (fids : List Fid) → is_listed (f ∷ fids) f ≡ true
first f fids = or_left (same_fid f f) _ (same_fid_refl f)

behind : (g f : Fid) (fids : List Fid) → is_listed fids f ≡ true → is_listed (g ∷ fids) f ≡ true
behind g f fids on = or_right (same_fid g f) _ on

second : (g f : Fid) (fids : List Fid) → is_listed (g ∷ f ∷ fids) f ≡ true
second g f fids = behind g f (f ∷ fids) (first f fids)

over_place : (from_dir to_dir fid : Fid) (over : Over) → is_listed (from_dir ∷ to_dir ∷ fid ∷ over_fids (Some over)) over.fid ≡ true
over_place from_dir to_dir fid over = behind from_dir over.fid (to_dir ∷ fid ∷ over.fid ∷ [])
    (behind to_dir over.fid (fid ∷ over.fid ∷ []) (second fid over.fid []))

effects_out : (gone : List Fid) (time : ℕ) (sid : Sid) (op : Op) → AreAside gone op → AreOutside gone (effects time sid op)
effects_out gone time sid (Create dir name fid mode owner) aside = (aside dir (first dir (fid ∷ [])), (aside fid (second dir fid []), tt))
effects_out gone time sid (Mkdir dir name fid mode owner) aside = (aside dir (first dir (fid ∷ [])), (aside fid (second dir fid []), tt))
effects_out gone time sid (Symlink dir name fid target mode owner) aside = (aside dir (first dir (fid ∷ [])), (aside fid (second dir fid []), tt))
effects_out gone time sid (Store fid pre content) aside = (aside fid (first fid []), tt)
effects_out gone time sid (Setattr fid pre attrs) aside = (aside fid (first fid []), tt)
effects_out gone time sid (Remove dir name fid pre) aside = (aside dir (first dir (fid ∷ [])), (aside fid (second dir fid []), tt))
effects_out gone time sid (Rmdir dir name fid pre) aside = (aside dir (first dir (fid ∷ [])), (aside fid (second dir fid []), tt))
effects_out gone time sid (Rename from_dir from to_dir to fid None) aside =
    (aside from_dir (first from_dir (to_dir ∷ fid ∷ [])), (aside to_dir (second from_dir to_dir (fid ∷ [])), tt))
effects_out gone time sid (Rename from_dir from to_dir to fid (Some over)) aside =
    (aside over.fid (over_place from_dir to_dir fid over), (aside from_dir (first from_dir (to_dir ∷ fid ∷ over.fid ∷ [])), (aside to_dir (second from_dir to_dir (fid ∷ over.fid ∷ [])), tt)))

nodes_out : (m : Nodes) (client : ℕ) (rec : Record) (gone : List Fid) → AreAside gone rec.op
    → applied (taken_from m gone) client rec ≡ taken_from (applied m client rec) gone
unfolding applied
nodes_out m client rec gone aside =
    edits_out m gone (effects rec.time (sid_of client rec) rec.op) (effects_out gone rec.time (sid_of client rec) rec.op aside)

parents_out : (parents : Parents) (op : Op) (gone : List Fid) → AreAside gone op
    → parents_after (taken_from parents gone) op ≡ taken_from (parents_after parents op) gone
parents_out parents (Create dir name fid mode owner) gone aside = put_out parents gone fid dir (aside fid (second dir fid []))
parents_out parents (Mkdir dir name fid mode owner) gone aside = put_out parents gone fid dir (aside fid (second dir fid []))
parents_out parents (Symlink dir name fid target mode owner) gone aside = put_out parents gone fid dir (aside fid (second dir fid []))
parents_out parents (Store fid pre content) gone aside = refl
parents_out parents (Setattr fid pre attrs) gone aside = refl
parents_out parents (Remove dir name fid pre) gone aside = refl
parents_out parents (Rmdir dir name fid pre) gone aside = refl
parents_out parents (Rename from_dir from to_dir to fid over) gone aside =
    put_out parents gone fid to_dir (aside fid (behind from_dir fid (to_dir ∷ fid ∷ over_fids over) (second to_dir fid (over_fids over))))

-- ---- ways up

pub fewer : (parents : Parents) (f : Fid) → map.len (map.remove parents f) ≤ map.len parents
fewer parents f = by (is_some (map.get parents f)) (map.len-remove fids_total parents f)
  where
    by : (b : Bool) → map.len (map.remove parents f) ≡ cond b (map.len parents - 1) (map.len parents) → map.len (map.remove parents f) ≤ map.len parents
    by true e = omega (arith, e)
    by false e = omega (arith, e)

fewer_left : (parents : Parents) (gone : List Fid) → map.len (taken_from parents gone) ≤ map.len parents
fewer_left parents [] = omega (arith)
fewer_left parents (g ∷ gone) =
    let later = fewer_left (map.remove parents g) gone in
    let first = fewer parents g in
    omega (arith, later, first)

module _ (parents : Parents) (gone : List Fid) (stay : (f p : Fid) → is_listed gone f ≡ false → map.get parents f ≡ Some p → is_listed gone p ≡ false) where
  same_steps : (n : ℕ) (f g : Fid) → is_listed gone f ≡ false → below_within (taken_from parents gone) n f g ≡ below_within parents n f g
  same_steps zero f g out = refl
  same_steps (suc n) f g out =
      ap (λ o. same_fid f g || option_map_or (λ p. below_within (taken_from parents gone) n p g) o false) (same_out parents gone f out)
      ∙ ap (λ b. same_fid f g || b) (up (λ p. same_steps n p g) (map.get parents f) refl)
    where
      up : ((p : Fid) → is_listed gone p ≡ false → below_within (taken_from parents gone) n p g ≡ below_within parents n p g)
          → (o : Option Fid) → map.get parents f ≡ o
          → option_map_or (λ p. below_within (taken_from parents gone) n p g) o false ≡ option_map_or (λ p. below_within parents n p g) o false
      up same None at = refl
      up same (Some p) at = same p (stay f p out at)

  same_ways : (f g : Fid) → is_listed gone f ≡ false → is_below (taken_from parents gone) f g ≡ is_below parents f g
  unfolding is_below
  same_ways f g out =
      let few = fewer (taken_from parents gone) g in
      let less = fewer_left parents gone in
      within_alike (taken_from parents gone) g (map.len (taken_from parents gone)) (map.len parents) f few (omega (arith, few, less))
      ∙ same_steps (map.len parents) f g out

  -- what is left where an object goes, and without these
  keep_out : {X : Type 0} (m : FinMap fid_cmp X) (top : Fid)
      → taken_from (map.retain_keys m (stays parents top)) gone ≡ map.retain_keys (taken_from m gone) (stays (taken_from parents gone) top)
  keep_out {X} m top = map.same_map fids_total exact_fids _ _ (λ q.
      taken_at (map.retain_keys m (stays parents top)) gone q ∙ ap (λ o. cond (is_listed gone q) None o) (left m (stays parents top) q)
      ∙ by q (is_listed gone q) refl
      ∙ sym (left (taken_from m gone) (stays (taken_from parents gone) top) q ∙ ap (λ o. cond (stays (taken_from parents gone) top q) o None) (taken_at m gone q)))
    where
      left : (n : FinMap fid_cmp X) (test : Fid → Bool) (q : Fid) → map.get (map.retain_keys n test) q ≡ cond (test q) (map.get n q) None
      left n test q = map.get-retain_keys n test q (λ x e. ap test (sym (exact_fids q x e)))

      none : (b : Bool) → (let o : Option X = None in o) ≡ cond b None None
      none true = refl
      none false = refl

      by : (q : Fid) (b : Bool) → is_listed gone q ≡ b
          → cond b None (cond (stays parents top q) (map.get m q) None) ≡ cond (stays (taken_from parents gone) top q) (cond b None (map.get m q)) None
      by q true on = none (stays (taken_from parents gone) top q)
      by q false out = ap (λ b. cond (not b) (map.get m q) None) (sym (same_ways q top out))

-- performing first and dropping then is dropping first and performing then
pub operated_dropped : (held : Held) (client : ℕ) (rec : Record) (gone : List Fid) → AreAside gone rec.op
    → ((f p : Fid) → is_listed gone f ≡ false → map.get held.parents f ≡ Some p → is_listed gone p ≡ false)
    → held_but (held_after_operation held client rec) gone ≡ held_after_operation (held_but held gone) client rec
operated_dropped held client rec gone aside stay = by (taken_out rec.op)
  where
    nodes : taken_from (applied held.nodes client rec) gone ≡ applied (taken_from held.nodes gone) client rec
    nodes = sym (nodes_out held.nodes client rec gone aside)

    parents : taken_from (parents_after held.parents rec.op) gone ≡ parents_after (taken_from held.parents gone) rec.op
    parents = sym (parents_out held.parents rec.op gone aside)

    by : (o : Option Fid)
        → held_but (held_without o held.parents (record { nodes = applied held.nodes client rec; parents = parents_after held.parents rec.op })) gone
        ≡ held_without o (taken_from held.parents gone) (record { nodes = applied (taken_from held.nodes gone) client rec; parents = parents_after (taken_from held.parents gone) rec.op })
    by None = λ i. record { nodes = nodes i; parents = parents i }
    by (Some top) = λ i. record {
      nodes = (keep_out held.parents gone stay (applied held.nodes client rec) top ∙ ap (λ m. map.retain_keys m (stays (taken_from held.parents gone) top)) nodes) i;
      parents = (keep_out held.parents gone stay (parents_after held.parents rec.op) top ∙ ap (λ m. map.retain_keys m (stays (taken_from held.parents gone) top)) parents) i;
    }

-- ---- what an operation mentions that is accepted behind drops

module _ (c : ClientState) (gone : List Fid) (volume : ℕ) (rec : Record) (may : MayEnterAll c (dropping gone ++ entry.Op volume rec ∷ [])) (begin : MayBegin c.held.nodes rec.op) where
  there_out : (f : Fid) → has (taken_from c.held.nodes gone) f ≡ true → is_listed gone f ≡ false
  there_out f there = by (is_listed gone f) refl
    where
      by : (b : Bool) → is_listed gone f ≡ b → b ≡ false
      by false e = refl
      by true e = absurd (false≢true (sym (ap is_some (taken_at c.held.nodes gone f ∙ ap (λ b. cond b None (map.get c.held.nodes f)) e)) ∙ there))

  dir_out : (f : Fid) → IsDirAt (taken_from c.held.nodes gone) f → is_listed gone f ≡ false
  dir_out f is = there_out f (has_it (map.get (taken_from c.held.nodes gone) f) is)
    where
      has_it : (o : Option Node) → IsDirNode o → is_some o ≡ true
      has_it None no_dir = absurd no_dir
      has_it (Some node) is_dir = refl

  free_out : (f : Fid) → map.get c.held.nodes f ≡ None → is_listed gone f ≡ false
  free_out f free = by (is_listed gone f) refl
    where
      by : (b : Bool) → is_listed gone f ≡ b → b ≡ false
      by false e = refl
      by true e = absurd (false≢true (sym (ap is_some free) ∙ gone_there c gone (entry.Op volume rec ∷ []) may f e))

  -- of two or more it is one
  either : (g f : Fid) (fids : List Fid) → is_listed gone g ≡ false → (is_listed fids f ≡ true → is_listed gone f ≡ false) → is_listed (g ∷ fids) f ≡ true → is_listed gone f ≡ false
  either g f fids out later on = elim (or_cases (same_fid g f) (is_listed fids f) on) [
    | inl same ↦ ap (is_listed gone) (sym (fid_true g f same)) ∙ out
    | inr rest ↦ later rest
  ]

  nobody : (f : Fid) → is_listed [] f ≡ true → is_listed gone f ≡ false
  nobody f on = absurd (false≢true on)

  two : (g h : Fid) → is_listed gone g ≡ false → is_listed gone h ≡ false → (f : Fid) → is_listed (g ∷ h ∷ []) f ≡ true → is_listed gone f ≡ false
  two g h out apart f on = either g f (h ∷ []) out (either h f [] apart (nobody f)) on

  aside_by : (s : Sight) (op : Op) → s.held.nodes ≡ taken_from c.held.nodes gone → MayBegin c.held.nodes op → Relies s volume op → AreAside gone op
  aside_by s (Create dir name fid mode owner) is b r = two dir fid (dir_out dir (subst (λ m. IsDirAt m dir) is r.place.dir_there)) (free_out fid b.apply.fid_free)
  aside_by s (Mkdir dir name fid mode owner) is b r = two dir fid (dir_out dir (subst (λ m. IsDirAt m dir) is r.place.dir_there)) (free_out fid b.apply.fid_free)
  aside_by s (Symlink dir name fid target mode owner) is b r = two dir fid (dir_out dir (subst (λ m. IsDirAt m dir) is r.place.dir_there)) (free_out fid b.apply.fid_free)
  aside_by s (Store fid pre content) is b r = λ f on. either fid f [] (there_out fid (ap (λ m. has m fid) (sym is) ∙ r)) (nobody f) on
  aside_by s (Setattr fid pre attrs) is b r = λ f on. either fid f [] (there_out fid (ap (λ m. has m fid) (sym is) ∙ r)) (nobody f) on
  aside_by s (Remove dir name fid pre) is b r = two dir fid (dir_out dir (subst (λ m. IsDirAt m dir) is r.0.dir_there)) (there_out fid (ap (λ m. has m fid) (sym is) ∙ r.1))
  aside_by s (Rmdir dir name fid pre) is b r = two dir fid (dir_out dir (subst (λ m. IsDirAt m dir) is r.0.dir_there)) (there_out fid (ap (λ m. has m fid) (sym is) ∙ r.1))
  aside_by s (Rename from_dir from to_dir to fid None) is b r = λ f on.
      either from_dir f (to_dir ∷ fid ∷ []) (dir_out from_dir (subst (λ m. IsDirAt m from_dir) is r.places.from_there))
      (two to_dir fid (dir_out to_dir (subst (λ m. IsDirAt m to_dir) is r.places.to_there)) (there_out fid (ap (λ m. has m fid) (sym is) ∙ r.there)) f) on
  aside_by s (Rename from_dir from to_dir to fid (Some over)) is b r = λ f on.
      either from_dir f (to_dir ∷ fid ∷ over.fid ∷ []) (dir_out from_dir (subst (λ m. IsDirAt m from_dir) is r.places.from_there))
      (either to_dir f (fid ∷ over.fid ∷ []) (dir_out to_dir (subst (λ m. IsDirAt m to_dir) is r.places.to_there))
      (two fid over.fid (there_out fid (ap (λ m. has m fid) (sym is) ∙ r.there)) (there_out over.fid (ap (λ m. has m over.fid) (sym is) ∙ r.replaced.0)) f)) on

  -- it mentions none of those that go
  pub mentions_apart : AreAside gone rec.op
  mentions_apart =
      let operates = (rest_may c gone (entry.Op volume rec ∷ []) may).0 in
      aside_by (sight_of (but_these c gone) volume) rec.op refl begin
      (accepted_relies (sight_of (but_these c gone) volume) volume operates.ask rec.op operates.accepted)

  -- so who goes for it may as well go behind it
  pub performed_dropped : client_after_all c (dropping gone ++ entry.Op volume rec ∷ [])
      ≡ record (client_after c (entry.Op volume rec)) { held = held_but (held_after_operation c.held c.number rec) gone }
  performed_dropped =
      client_but c gone (entry.Op volume rec ∷ [])
      ∙ ap (λ h. record (client_after c (entry.Op volume rec)) { held = h })
      (sym (operated_dropped c.held c.number rec gone mentions_apart (parents_stay c gone (entry.Op volume rec ∷ []) may)))

  -- who goes for an operation may as well go behind it
  pub goes_behind : client_after_all c (dropping gone ++ entry.Op volume rec ∷ [])
      ≡ record (client_after c (entry.Op volume rec)) { held = held_after_drops (held_after_operation c.held c.number rec) gone }
  goes_behind = performed_dropped
      ∙ ap (λ h. record (client_after c (entry.Op volume rec)) { held = h }) (sym (but_is (held_after_operation c.held c.number rec) gone))
