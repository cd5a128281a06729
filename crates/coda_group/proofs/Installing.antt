-- Installing something at replicas of a volume, at one after the other.
use Rattle.std.proofs.Common.{◌≡◌, ◌≢◌, ℕ, ◌≤◌, ◌==◌, ◌&&◌, Bool, true, false, cond, List, [], ◌∷◌, ◌++◌, length}
use Rattle.std.proofs.Common.{length-append, Option, Some, None, refl, sym, ap, ◌∙◌, subst, inl, inr, ◌⊎◌, arith}
use Rattle.std.proofs.lemmas.Bool.{eqb-true}
use Rattle.coda_fid.specs.Fid.{root_of}
use Rattle.coda_fid.specs.declared.fid.Fid.{Fid}
use Rattle.coda_tree.specs.Volume.{IsVolume, has}
use Rattle.coda_resolve.specs.Resolution.{has_in}
use Rattle.coda_resolve.specs.Placement.{IsIn}
use Rattle.coda_plain.specs.Objects.{Objects, nodes_in}
use Rattle.coda_plain.specs.Decisions.{ReplicaEntry, Resolved, Last, Kept, last_of, nodes_of, AreDecisions}
use Rattle.coda_plain.specs.Cell.{Actor, PlainCell, found, Joins, found_in}
use Rattle.coda_plain.specs.Logs.{BeginsWith}
use Rattle.coda_plain.specs.Moves.{Does, Fails, with_replica, grown, fallen, after, MayAppend, Moved}
use Rattle.coda_plain.specs.Sound.{IsSound}
use Rattle.coda_plain.proofs.Places.{IsGrown}
use Rattle.coda_plain.proofs.AtReplicas.{kept_push}
use Rattle.coda_plain.proofs.Soundness.{none_joins, found_up, grown_found, fallen_found, moves_keep_sound}
use Rattle.coda_plain.proofs.Staying.{replicas_run}
use Rattle.coda_group.specs.Holdings.{replica_objects}
use Rattle.coda_group.specs.Steps.{history_at, objects_at, last_at, Install, install_of, install_moves, after_moves}
use Rattle.coda_group.specs.Steps.{MayInstall, MayInstallAll, HasInstall}
use Rattle.coda_group.proofs.Mapping.{holding, objects_push}
use Rattle.coda_group.proofs.Volumes.{has_same}
use Rattle.coda_group.proofs.Growing.{here_now, grown_at}

-- ---- at one replica after the other

module _ (start : PlainCell) (start_sound : IsSound start) (volume : ℕ) (some : List ℕ) (lasts : ℕ → ℕ → Last) (Left : ℕ → Objects → Type 0)
    (ups : (s : ℕ) → IsIn s some → (start.replicas s volume).up ≡ true)
    (left_volume : (s : ℕ) (o : Objects) → IsIn s some → Left s o → IsVolume (root_of volume) (nodes_in o))
    (left_last : (s client : ℕ) → IsIn s some → (last_at start volume s client).number ≤ (lasts s client).number)
    (left_from : (s client : ℕ) → IsIn s some → (t : ℕ)
    × (IsIn t some × ((lasts s client ≡ last_at start volume t client) × (lasts s client ≡ lasts t client))))
    (left_held : (s : ℕ) (o : Objects) (f : Fid) → IsIn s some → Left s o → has_in o f ≡ true → (t : ℕ)
    × (IsIn t some × ((has_in (objects_at start volume t) f ≡ true)
    × ((p : Objects) → Left t p → has_in p f ≡ true)))) where
  -- of a replica that is up its history is found
  pub start_found : (joins : Joins) (s : ℕ) → IsIn s some
      → (found_in start joins).replicas s volume ≡ history_at start volume s
  start_found joins s i =
      found_up (joins.replicas s volume) (start.replicas s volume) (start_sound.replicas_up s volume (ups s i))

  -- what was left at a replica
  pub record IsPut (before behind : List ReplicaEntry) (s : ℕ) : Type 0 where
    pub objects : Objects
    pub there : IsIn s some
    pub more : behind ≡ before ++ Resolved objects (lasts s) ∷ []
    pub left : Left s objects

  -- something was left at some of the replicas, and nothing else happened
  pub record IsBehind (cell : PlainCell) : Type 0 where
    pub clients : cell.clients ≡ start.clients
    pub learned : cell.learned ≡ start.learned
    pub pool : cell.pool ≡ start.pool
    pub elsewhere : (joins : Joins) (s v : ℕ) → v ≢ volume
        → (found_in cell joins).replicas s v ≡ (found_in start joins).replicas s v
    pub each : (joins : Joins) (s : ℕ) → ((found_in cell joins).replicas s volume ≡ (found_in start joins).replicas s volume) ⊎ IsPut ((found_in start joins).replicas s volume) ((found_in cell joins).replicas s volume) s

  pub at_start : IsBehind start
  at_start =
      record {
        clients = refl;
        learned = refl;
        pool = refl;
        elsewhere = λ joins s v ne. refl;
        each = λ joins s. inl refl;
      }

  module _ (cell : PlainCell) (b : IsBehind cell) (sound : IsSound cell) (up : (s : ℕ) → IsIn s some → (cell.replicas s volume).up ≡ true) (install : Install) (may : MayInstall Left start cell volume some install) where
    abbrev entry : ReplicaEntry
    entry = Resolved install.objects (lasts install.server)

    cell_found : (joins : Joins) (s : ℕ) → IsIn s some
        → (found_in cell joins).replicas s volume ≡ history_at cell volume s
    cell_found joins s i =
        found_up (joins.replicas s volume) (cell.replicas s volume) (sound.replicas_up s volume (up s i))

    untouched : (joins : Joins)
        → (found_in cell joins).replicas install.server volume ≡ (found_in start joins).replicas install.server volume
    untouched joins =
        cell_found joins install.server may.among ∙ may.untouched ∙ sym (start_found joins install.server may.among)

    pub behind_append : (next : Actor ReplicaEntry)
        → ((c : Bool) → IsGrown (Unit {0}) entry (found c (cell.replicas install.server volume)) (found c next))
        → IsBehind (with_replica cell install.server volume next)
    behind_append next more = record {
      clients = b.clients;
      learned = b.learned;
      pool = b.pool;
      elsewhere = λ joins s v ne. elim (grown_at cell install.server volume entry next more joins s v) [
        | inl same ↦ same ∙ b.elsewhere joins s v ne
        | inr new ↦ absurd (ne new.0.1)
      ];
      each = λ joins s. elim (grown_at cell install.server volume entry next more joins s volume) [
        | inl same ↦ elim (b.each joins s) [
          | inl stays ↦ inl (same ∙ stays)
          | inr put ↦ inr (record { objects = put.objects; there = put.there; more = same ∙ put.more; left = put.left })
        ]
        | inr new ↦ inr (record {
          objects = install.objects;
          there = subst (λ n. IsIn n some) (sym new.0.0) may.among;
          more =
              new.1 ∙ ap (λ es. es ++ entry ∷ []) (ap (λ n. (found_in cell joins).replicas n volume) new.0.0
              ∙ untouched joins ∙ ap (λ n. (found_in start joins).replicas n volume) (sym new.0.0))
              ∙ ap (λ n. (found_in start joins).replicas s volume ++ Resolved install.objects (lasts n) ∷ [])
              (sym new.0.0);
          left = subst (λ n. Left n install.objects) (sym new.0.0) may.left;
        })
      ];
    }

    server_up : (cell.replicas install.server volume).up ≡ true
    server_up = up install.server may.among

    pub behind_does : IsBehind (after cell (Does (install_of volume lasts install)))
    behind_does =
        behind_append (grown entry (cell.replicas install.server volume))
        (λ c. grown_found entry c (cell.replicas install.server volume)
        (sound.replicas_up install.server volume server_up))

    pub behind_fails : IsBehind (after cell (Fails (install_of volume lasts install)))
    behind_fails =
        behind_append (fallen entry (cell.replicas install.server volume))
        (λ c. fallen_found entry c (cell.replicas install.server volume)
        (sound.replicas_up install.server volume server_up))

    -- ---- it may be installed

    cell_each : (s : ℕ) → IsIn s some → (history_at cell volume s ≡ history_at start volume s) ⊎ IsPut (history_at start volume s) (history_at cell volume s) s
    cell_each s i = elim (b.each none_joins s) [
      | inl same ↦ inl (sym (cell_found none_joins s i) ∙ same ∙ start_found none_joins s i)
      | inr put ↦ inr (record {
        objects = put.objects;
        there = put.there;
        more =
            sym (cell_found none_joins s i) ∙ put.more ∙ ap (λ es. es ++ Resolved put.objects (lasts s) ∷ [])
            (start_found none_joins s i);
        left = put.left;
      })
    ]

    -- no last decision falls
    falls_none : (client : ℕ) → (last_of volume (history_at cell volume install.server) client).number ≤ (lasts install.server client).number
    falls_none client =
        subst (λ es. (last_of volume es client).number ≤ (lasts install.server client).number) (sym may.untouched)
        (left_last install.server client may.among)

    -- each is one that a replica keeps
    kept_last : (t client : ℕ) → IsIn t some → lasts install.server client ≡ last_at start volume t client
        → lasts install.server client ≡ lasts t client
        → lasts install.server client ≡ last_of volume (history_at cell volume t) client
    kept_last t client i e same = elim (cell_each t i) [
      | inl stays ↦ e ∙ ap (λ es. last_of volume es client) (sym stays)
      | inr put ↦ same ∙ ap (λ (k : Kept). k.lasts client) (sym (kept_push volume (history_at start volume t) (Resolved put.objects (lasts t)))) ∙ ap (λ es. last_of volume es client) (sym put.more)
    ]

    -- what each replica holds are its nodes
    has_then : (s : ℕ) (f : Fid) → IsIn s some → has_in (objects_at cell volume s) f ≡ true
        → has (nodes_of volume (history_at cell volume s)) f ≡ true
    has_then s f i e =
        let law : AreDecisions volume (history_at cell volume s) = subst (AreDecisions volume) (cell_found none_joins s i) ((sound.agree none_joins).ruled s volume) in
        ap (λ n. has n f) (holding s volume (history_at cell volume s) law) ∙ has_same (objects_at cell volume s) f ∙ e

    held_now : (f : Fid) → has (nodes_in install.objects) f ≡ true → (t : ℕ) × ((cell.replicas t volume).up ≡ true) × (has (nodes_of volume (cell.replicas t volume).history) f ≡ true)
    held_now f m =
        let from = left_held install.server install.objects f may.among may.left (sym (has_same install.objects f) ∙ m) in (
          from.0,
          up from.0 from.1.0,
          has_then from.0 f from.1.0 (elim (cell_each from.0 from.1.0) [
            | inl stays ↦ ap (λ es. has_in (replica_objects from.0 volume es) f) stays ∙ from.1.1.0
            | inr put ↦ ap (λ o. has_in o f) (ap (replica_objects from.0 volume) put.more ∙ objects_push from.0 volume (history_at start volume from.0) (Resolved put.objects (lasts from.0))) ∙ from.1.1.1 put.objects put.left
          ]),
        )

    pub may_install : MayAppend cell (install_of volume lasts install)
    may_install = (
      server_up,
      (left_volume install.server install.objects may.among may.left, falls_none),
      (
        (λ client. let from = left_from install.server client may.among in (from.0, up from.0 from.1.0, kept_last from.0 client from.1.0 from.1.1.0 from.1.1.1)),
        held_now,
      ),
    )

    pub up_does : (s : ℕ) → IsIn s some
        → ((after cell (Does (install_of volume lasts install))).replicas s volume).up ≡ true
    up_does s i = go ((s == install.server) && (volume == volume))
      where
        go : (c : Bool)
            → (cond c (grown entry (cell.replicas install.server volume)) (cell.replicas s volume)).up ≡ true
        go true = server_up
        go false = up s i

  -- ---- all of them

  -- what happened is what may be left, installed where it was
  pub record IsDone (cell : PlainCell) (installs : List Install) (failing : Option Install) : Type 0 where
    pub moved : Moved cell (install_moves volume lasts installs failing) (after_moves cell (install_moves volume lasts installs failing))
    pub behind : IsBehind (after_moves cell (install_moves volume lasts installs failing))
    pub sound : IsSound (after_moves cell (install_moves volume lasts installs failing))

  pub install_all : (installs : List Install) (failing : Option Install) (cell : PlainCell) → IsBehind cell
      → IsSound cell → ((s : ℕ) → IsIn s some → (cell.replicas s volume).up ≡ true)
      → MayInstallAll Left start volume some lasts cell installs failing → IsDone cell installs failing
  install_all [] None cell b sound up may = record { moved = refl; behind = b; sound = sound }
  install_all [] (Some failing) cell b sound up may =
      let m = may_install cell b sound up failing may in
      record {
        moved = (m, refl);
        behind = behind_fails cell b sound up failing may;
        sound = moves_keep_sound cell (Fails (install_of volume lasts failing)) m sound;
      }
  install_all (install ∷ installs) failing cell b sound up may =
      let m = may_install cell b sound up install may.0 in
      let rest = install_all installs failing (after cell (Does (install_of volume lasts install))) (behind_does cell b sound up install may.0)
      (moves_keep_sound cell (Does (install_of volume lasts install)) m sound) (up_does cell b sound up install may.0)
      may.1 in
      record { moved = (m, rest.moved); behind = rest.behind; sound = rest.sound }

-- ---- where an install was, the history goes on from it

-- a history goes on from what was left
pub record HasGrown (start final : PlainCell) (volume : ℕ) (lasts : ℕ → ℕ → Last) (s : ℕ) : Type 0 where
  pub objects : Objects
  pub on : BeginsWith (history_at final volume s) (history_at start volume s ++ Resolved objects (lasts s) ∷ [])

grew_at : (cell : PlainCell) (volume : ℕ) (lasts : ℕ → ℕ → Last) (install : Install)
    → history_at (after cell (Does (install_of volume lasts install))) volume install.server ≡ history_at cell volume
    install.server ++ Resolved install.objects (lasts install.server) ∷ []
grew_at cell volume lasts install =
    here_now cell install.server volume (grown (Resolved install.objects (lasts install.server))
    (cell.replicas install.server volume)) none_joins

module _ (start final : PlainCell) (volume : ℕ) (some : List ℕ) (lasts : ℕ → ℕ → Last) (Left : ℕ → Objects → Type 0) (failing : Option Install) where
  installed_grew : (installs : List Install) (cell : PlainCell)
      → MayInstallAll Left start volume some lasts cell installs failing
      → Moved cell (install_moves volume lasts installs failing) final → (s : ℕ) → HasInstall installs s
      → HasGrown start final volume lasts s
  installed_grew [] cell may run s has = absurd has.1.0
  installed_grew (install ∷ installs) cell may run s (other, (inl same, at)) =
      let here : install.server ≡ s = ap (λ (i : Install). i.server) same ∙ at in
      let next = after cell (Does (install_of volume lasts install)) in
      let more = replicas_run (install_moves volume lasts installs failing) next final run.1 install.server volume in
      subst (HasGrown start final volume lasts) here (record {
        objects = install.objects;
        on = (
          more.0,
          more.1 ∙ ap (λ es. es ++ more.0)
              (grew_at cell volume lasts install ∙ ap (λ es. es ++ Resolved install.objects (lasts install.server) ∷ [])
              may.0.untouched),
        );
      })
  installed_grew (install ∷ installs) cell may run s (other, (inr later, at)) =
      installed_grew installs (after cell (Does (install_of volume lasts install))) may.1 run.1 s (other, (later, at))

pub not_longer : (es : List ReplicaEntry) (e : ReplicaEntry) (more : List ReplicaEntry) → es ≡ (es ++ e ∷ []) ++ more
    → ⊥
not_longer es e more same =
    let l = ap length same in
    let a = length-append (es ++ e ∷ []) more in
    let b = length-append es (e ∷ []) in
    grind (arith, l, a, b)

-- so it isn't what it was
pub grew_away : (start final : PlainCell) (volume : ℕ) (some : List ℕ) (lasts : ℕ → ℕ → Last) (Left : ℕ → Objects → Type 0) (failing : Option Install) (installs : List Install)
    → MayInstallAll Left start volume some lasts start installs failing → Moved start
    (install_moves volume lasts installs failing) final → (s : ℕ) → HasInstall installs s → history_at final volume s
    ≢ history_at start volume s
grew_away start final volume some lasts Left failing installs may run s has same =
    let grew = installed_grew start final volume some lasts Left failing installs start may run s has in
    not_longer (history_at start volume s) (Resolved grew.objects (lasts s)) grew.on.0 (sym same ∙ grew.on.1)

-- ---- and where none was, the history is what it was

module _ (volume : ℕ) (lasts : ℕ → ℕ → Last) (s : ℕ) where
  and_first : (a b : Bool) → (a && b) ≡ true → a ≡ true
  and_first true b e = refl
  and_first false b e = e

  at_server : (server : ℕ) → ((s == server) && (volume == volume)) ≡ true → s ≡ server
  at_server server e = eqb-true s server (and_first (s == server) (volume == volume) e)

  failing_stays : (cell : PlainCell) (install : Install) (b : Bool) → (b ≡ true → s ≡ install.server)
      → (cond b (fallen (Resolved install.objects (lasts install.server)) (cell.replicas install.server volume))
      (cell.replicas s volume)).history ≡ history_at cell volume s
  failing_stays cell install true at = ap (history_at cell volume) (sym (at refl))
  failing_stays cell install false at = refl

  other_stays : (cell : PlainCell) (install : Install) (b : Bool) → (b ≡ true → s ≡ install.server)
      → (install.server ≡ s → ⊥)
      → (cond b (grown (Resolved install.objects (lasts install.server)) (cell.replicas install.server volume))
      (cell.replicas s volume)).history ≡ history_at cell volume s
  other_stays cell install true at apart = absurd (apart (sym (at refl)))
  other_stays cell install false at apart = refl

  pub none_stays : (installs : List Install) (failing : Option Install) (cell : PlainCell) → (HasInstall installs s → ⊥) → history_at (after_moves cell (install_moves volume lasts installs failing)) volume s ≡ history_at cell volume s
  none_stays [] None cell none = refl
  none_stays [] (Some install) cell none =
      failing_stays cell install ((s == install.server) && (volume == volume)) (at_server install.server)
  none_stays (install ∷ installs) failing cell none =
      none_stays installs failing (after cell (Does (install_of volume lasts install)))
      (λ has. none (has.0, (inr has.1.0, has.1.1)))
      ∙ other_stays cell install ((s == install.server) && (volume == volume)) (at_server install.server)
      (λ is. none (install, (inl refl, is)))
