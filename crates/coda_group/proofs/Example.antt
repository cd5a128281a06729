-- A chunk is decided at one server, and its verdict is taken over at another: such a run there is.
use Rattle.std.proofs.Common.{◌≡◌, ℕ, ◌+◌, ◌≤◌, true, false, ◌||◌, List, [], ◌∷◌, Option, Some, None, Ok, Err}
use Rattle.std.proofs.Common.{is_some, refl, sym, ap, ◌∙◌, subst, inl, inr, ◌⊎◌, arith}
use Rattle.std.specs.FinMap as finmap
use Rattle.std.proofs.lemmas.Bool.{cases_Bool, true≢false, false≢true}
use Rattle.coda_fid.specs.Fid.{root_of, same_fid, fid_cmp}
use Rattle.coda_fid.specs.Name.{name_cmp}
use Rattle.coda_fid.specs.declared.fid.Fid.{Fid}
use Rattle.coda_fid.proofs.Fids.{fids_total, exact_fids}
use Rattle.coda_fid.specs.declared.op.Op.TheVariants.{Create, Remove}
use Rattle.coda_fid.specs.declared.op.Record.{Record}
use Rattle.coda_tree.specs.Bindings.{Name}
use Rattle.coda_tree.proofs.Order.{fid_cases, get_here, get_else}
use Rattle.coda_reslog.specs.declared.change.Held.{Held}
use Rattle.coda_cancel.specs.Dropping.{mentioning}
use Rattle.coda_cancel.proofs.Keys.{fid_true}
use Rattle.coda_cml.specs.Steady.{any_record}
use Rattle.coda_certify.specs.Replay.{Replayed}
use Rattle.coda_certify.specs.declared.verdict.Verdict.{Verdict}
use Rattle.coda_certify.specs.declared.verdict.Verdict.TheVariants.{Applied, Conflict}
use Rattle.coda_resolve.specs.declared.fate.Fate.{Fate}
use Rattle.coda_resolve.specs.declared.fate.Fate.TheVariants.{Same, Marked, Gone}
use Rattle.coda_resolve.specs.Copies.{first_some, bindings_of}
use Rattle.coda_resolve.specs.Settling.{settled_copy}
use Rattle.coda_resolve.specs.Resolution.{Replicas, copies_at, fate_at, IsTakenUp, at_root, below, child_in}
use Rattle.coda_resolve.specs.Placement.{SomeOf, IsIn}
use Rattle.coda_resolve.specs.Trees.{IsInstalled}
use Rattle.coda_resolve.proofs.Lists.{some_none}
use Rattle.coda_resolve.proofs.There.{Binds, fate_bound}
use Rattle.coda_lineage.specs.Lineage.{new_root}
use Rattle.coda_plain.specs.Objects.{Objects, nodes_in}
use Rattle.coda_plain.specs.Deeds.{Deed, Operated, Froze, Settled, IsMade, created_in, full_of}
use Rattle.coda_plain.specs.Decisions.{ReplicaEntry, Decided, Last, decision}
use Rattle.coda_plain.specs.Cell.{Did, PlainCell, empty_cell}
use Rattle.coda_plain.specs.Moves.{AtClient, AtReplica, Does, done_on, IsNext, AreNamed}
use Rattle.coda_group.specs.Holdings.{objects_left, new_objects}
use Rattle.coda_group.specs.Groups.{IsObjectNumbered}
use Rattle.coda_group.specs.Steps.{Install, GroupStep, Moves, Resolves, MayStep, MayResolve, objects_at, last_at}
use Rattle.coda_group.specs.Steps.{after_step, GroupStepped}
use Rattle.coda_group.specs.Laws.{two_servers, SomeChunkIsTakenOver}

-- ---- replicas that hold the root alone

pub record IsBare (root : Fid) (o : Objects) : Type 0 where
  pub held : Held
  pub there : finmap.get o root ≡ Some held
  pub none : (d : Fid) (n : Name) → child_in o d n ≡ None

pub bare_new : (volume : ℕ) → IsBare (root_of volume) (new_objects volume)
bare_new volume = record {
  held = new_root;
  there = get_here fids_total finmap.empty (root_of volume) new_root;
  none = λ d n. elim (fid_cases d (root_of volume)) [
    | inl same ↦ ap (λ f. finmap.get (bindings_of (finmap.get (new_objects volume) f)) n) same ∙ ap (λ o. finmap.get (bindings_of o) n) (get_here fids_total finmap.empty (root_of volume) new_root) ∙ finmap.get-empty name_cmp n
    | inr apart ↦ ap (λ o. finmap.get (bindings_of o) n) (get_else fids_total exact_fids finmap.empty (root_of volume) new_root d apart ∙ finmap.get-empty fid_cmp d) ∙ finmap.get-empty name_cmp n
  ];
}

settled_some : (fate : Fate) (lowest : Option Held) (own : Held)
    → (x : Held) × (settled_copy fate lowest (Some own) ≡ Some x)
settled_some (Same held) lowest own = (held, refl)
settled_some (Marked why) lowest own = (_, refl)
settled_some Gone lowest own = (own, refl)

module _ (root : Fid) (a b : Objects) (bare_a : IsBare root a) (bare_b : IsBare root b) where
  abbrev both : Replicas
  both = a ∷ b ∷ []

  taken_root : (f : Fid) → IsTakenUp both root f → f ≡ root
  taken_root f (at_root g is) = is
  taken_root f (below d n g held same bound up) =
      absurd (go (fate_bound (copies_at both d) (copies_at both) held n g same bound))
    where
      go : SomeOf (Binds n g) (copies_at both d) → ⊥
      go (inl e) = some_none g (sym e ∙ bare_a.none d n)
      go (inr (inl e)) = some_none g (sym e ∙ bare_b.none d n)
      go (inr (inr none)) = none

  module _ (view : Objects) (bare : IsBare root view) where
    is_settled : (x : Held) × (settled_copy (fate_at both root) (first_some (copies_at both root)) (Some bare.held) ≡ Some x)
    is_settled = settled_some (fate_at both root) (first_some (copies_at both root)) bare.held

    left_there : Objects
    left_there = finmap.insert finmap.empty root is_settled.0

    installed : IsInstalled both root view left_there
    unfolding left_there
    installed = record {
      taken = λ f up. (let is = taken_root f up in
          ap (finmap.get left_there) is ∙ get_here fids_total finmap.empty root is_settled.0 ∙ sym is_settled.1
          ∙ ap (settled_copy (fate_at both root) (first_some (copies_at both root))) (sym bare.there)
          ∙ ap (λ g. settled_copy (fate_at both g) (first_some (copies_at both g)) (finmap.get view g)) (sym is));
      kept = λ d n f keeps child. absurd (some_none f (sym child ∙ bare.none d n));
      only = λ f has. elim (fid_cases f root) [
        | inl is ↦ inl (at_root f is)
        | inr apart ↦ absurd (true≢false (sym has ∙ ap is_some (get_else fids_total exact_fids finmap.empty root is_settled.0 f apart ∙ finmap.get-empty fid_cmp f)))
      ];
    }

-- ---- the run

abbrev file : Fid
file = record { volume = 7; vnode = 1; uniq = 1 }

abbrev creation : Record
creation = record { number = 1; time = 0; op = Create (root_of 7) (97 ∷ []) file 420 0 }

abbrev removal : Record
removal = record { number = 2; time = 0; op = Remove (root_of 7) (97 ∷ []) file (record { client = 1; number = 1 }) }

abbrev move_of : ReplicaEntry → ℕ → GroupStep
move_of entry server = Moves (Does (AtReplica server 7 entry))

abbrev did : Deed → GroupStep
did deed = Moves (Does (AtClient 1 (Did 7 deed)))

abbrev decided : PlainCell
decided =
    after_step (after_step (after_step (after_step empty_cell (did (Operated creation))) (did (Operated removal)))
    (did (Froze 1 1 2))) (move_of (Decided 1 1 (creation ∷ removal ∷ [])) 1)

unchanged : (server client : ℕ) (o : Objects) (r : Replayed) → objects_left server client [] o r ≡ o
unchanged server client o (Ok m) = refl
unchanged server client o (Err why) = refl

one_bare : IsBare (root_of 7) (objects_at decided 7 1)
one_bare =
    subst (IsBare (root_of 7))
    (sym (unchanged 1 1 (new_objects 7) (decision (nodes_in (new_objects 7)) 1 (creation ∷ removal ∷ []))))
    (bare_new 7)

two_bare : IsBare (root_of 7) (objects_at decided 7 2)
two_bare = bare_new 7

abbrev lasts : ℕ → Last
lasts client = last_at decided 7 1 client

abbrev install_one : Install
install_one =
    record {
      server = 1;
      objects = left_there (root_of 7) (objects_at decided 7 1) (objects_at decided 7 2) one_bare
          two_bare (objects_at decided 7 1) one_bare;
    }

abbrev install_two : Install
install_two =
    record {
      server = 2;
      objects = left_there (root_of 7) (objects_at decided 7 1) (objects_at decided 7 2) one_bare
          two_bare (objects_at decided 7 2) two_bare;
    }

abbrev resolution : GroupStep
resolution = Resolves 7 (1 ∷ 2 ∷ []) lasts (install_one ∷ install_two ∷ []) None

abbrev resolved : PlainCell
resolved = after_step decided resolution

named_file : (f : Fid) → same_fid file f ≡ true → IsObjectNumbered 7 1 1 f
named_file f e =
    let is = fid_true file f e in
    record {
      here = ap (λ (g : Fid). g.volume) (sym is);
      own = ap (λ (g : Fid). g.vnode) (sym is);
      some = (λ z. omega (arith, z));
      number_is = ap (λ (g : Fid). g.uniq) (sym is);
    }

may_resolve : MayResolve two_servers decided 7 (1 ∷ 2 ∷ []) lasts (install_one ∷ install_two ∷ []) None
may_resolve = record {
  among = λ s i. i;
  up = up;
  joined = record { from = λ client. (1, (inl refl, refl)); greatest = greatest };
  installed = (
    record {
      among = inl refl;
      untouched = refl;
      left = installed (root_of 7) (objects_at decided 7 1) (objects_at decided 7 2) one_bare two_bare
          (objects_at decided 7 1) one_bare;
    },
    (
      record {
        among = inr (inl refl);
        untouched = refl;
        left = installed (root_of 7) (objects_at decided 7 1) (objects_at decided 7 2) one_bare two_bare
            (objects_at decided 7 2) two_bare;
      },
      tt,
    ),
  );
}
  where
    up : (s : ℕ) → IsIn s (1 ∷ 2 ∷ []) → (decided.replicas s 7).up ≡ true
    up s (inl e) = subst (λ n. (decided.replicas n 7).up ≡ true) e refl
    up s (inr (inl e)) = subst (λ n. (decided.replicas n 7).up ≡ true) e refl
    up s (inr (inr none)) = absurd none

    greatest : (client s : ℕ) → IsIn s (1 ∷ 2 ∷ []) → (last_at decided 7 s client).number ≤ (lasts client).number
    greatest client s (inl e) = subst (λ n. (last_at decided 7 n client).number ≤ (lasts client).number) e (omega arith)
    greatest client s (inr (inl e)) =
        subst (λ n. (last_at decided 7 n client).number ≤ (lasts client).number) e (omega arith)
    greatest client s (inr (inr none)) = absurd none

abbrev other_file : Fid
other_file = record { volume = 7; vnode = 1; uniq = 2 }

abbrev third : Record
third = record { number = 3; time = 0; op = Create (root_of 7) (98 ∷ []) other_file 420 0 }

-- what is pending with it, by what became of the first chunk
abbrev span_by : Verdict → List Record
span_by Applied = third ∷ []
span_by (Conflict number why) = creation ∷ removal ∷ third ∷ []

abbrev settled : Verdict → PlainCell
settled v = after_step resolved (did (Settled 1 v))

abbrev operated : Verdict → PlainCell
operated v = after_step (settled v) (did (Operated third))

abbrev frozen : Verdict → PlainCell
frozen v = after_step (operated v) (did (Froze 2 2 3))

abbrev final : Verdict → PlainCell
final v = after_step (frozen v) (move_of (Decided 1 2 (span_by v)) 2)

root_made : (cell : PlainCell) (f : Fid) → same_fid (root_of 7) f ≡ true → IsMade 7 (done_on cell f.vnode 7) f
root_made cell f e = let is = sym (fid_true (root_of 7) f e) in (ap (λ (g : Fid). g.volume) is, inl (ap (λ (g : Fid). g.vnode) is))

mentioned : (file f : Fid) (P : Type 0) → (same_fid (root_of 7) f || (same_fid file f || false)) ≡ true
    → (same_fid (root_of 7) f ≡ true → P) → (same_fid file f ≡ true → P) → P
mentioned file f P m root own = elim (cases_Bool (same_fid (root_of 7) f)) [
  | inl is ↦ root is
  | inr other ↦ elim (cases_Bool (same_fid file f)) [
    | inl is ↦ own is
    | inr neither ↦ (let none : false ≡ true = sym (ap (λ b. b || false) neither) ∙ sym (ap (λ b. b || (same_fid file f || false)) other) ∙ m in absurd (false≢true none))
  ]
]

next_at : (file : Fid) (name : Name) (deeds : List Deed) → file.volume ≡ 7 → file.vnode ≡ 1
    → file.uniq ≡ created_in (full_of deeds) + 1 → (f : Fid) → same_fid file f ≡ true
    → IsNext 7 deeds 1 (Create (root_of 7) name file 420 0) f
next_at file name deeds volume own number f e =
    let is = sym (fid_true file f e) in
    record {
      creates_it = e;
      here = ap (λ (g : Fid). g.volume) is ∙ volume;
      own = ap (λ (g : Fid). g.vnode) is ∙ own;
      next = ap (λ (g : Fid). g.uniq) is ∙ number;
    }

numbered_at : (file f : Fid) (n : ℕ) → file.volume ≡ 7 → file.vnode ≡ 1 → file.uniq ≡ n → same_fid file f ≡ true
    → IsObjectNumbered 7 1 n f
numbered_at file f n volume own number e =
    let is = sym (fid_true file f e) in
    record {
      here = ap (λ (g : Fid). g.volume) is ∙ volume;
      own = ap (λ (g : Fid). g.vnode) is ∙ own;
      some = (λ z. omega (arith, z));
      number_is = ap (λ (g : Fid). g.uniq) is ∙ number;
    }

abbrev created : PlainCell
created = after_step empty_cell (did (Operated creation))

removal_named : AreNamed created 1 7 removal.op
removal_named = record {
  known = λ f m. mentioned file f (IsNext 7 (done_on created 1 7) 1 removal.op f ⊎ IsMade 7 (done_on created f.vnode 7) f) m
      (λ e. inr (root_made created f e))
      (λ e. inr (subst (λ g. IsMade 7 (done_on created g.vnode 7) g) (fid_true file f e) (refl, inr (omega arith))));
  next = λ f e. absurd (false≢true e);
}

first_steps : MayStep two_servers empty_cell (did (Operated creation))
first_steps = (
  (
    refl,
    (
      record { next = refl; fresh = λ f c. refl; empty = tt },
      record {
        known = λ f m. mentioned file f (IsNext 7 (done_on empty_cell 1 7) 1 creation.op f ⊎ IsMade 7 (done_on empty_cell f.vnode 7) f) m
            (λ e. inr (root_made empty_cell f e)) (λ e. inl (next_at file (97 ∷ []) [] refl refl refl f e));
        next = λ f e. next_at file (97 ∷ []) [] refl refl refl f e;
      },
    ),
  ),
  λ f e. numbered_at file f 1 refl refl refl e,
)

second_step : MayStep two_servers created (did (Operated removal))
second_step = (
  (
    refl,
    (
      record { next = refl; fresh = λ f c. absurd (false≢true c); empty = λ child e. absurd (false≢true e) },
      removal_named,
    ),
  ),
  λ f e. absurd (false≢true e),
)

abbrev removed : PlainCell
removed = after_step created (did (Operated removal))

third_step : MayStep two_servers removed (did (Froze 1 1 2))
third_step =
    ((refl, (record { thawed = refl; next = refl; pending = omega arith; there = omega arith; ends = refl }, tt)), tt)

abbrev first_frozen : PlainCell
first_frozen = after_step removed (did (Froze 1 1 2))

fourth_step : MayStep two_servers first_frozen (move_of (Decided 1 1 (creation ∷ removal ∷ [])) 1)
fourth_step = (
  (
    refl,
    refl,
    (
      inr (record {
        up = refl;
        cut = record { home = 1; last = 2 };
        frozen = refl;
        home = refl;
        last = refl;
      }),
      refl,
    ),
  ),
  inl refl,
)

-- ---- behind the resolution

-- server 2 keeps the verdict that it took over
kept_at_two : last_at resolved 7 2 1 ≡ record { number = 1; verdict = (lasts 1).verdict }
kept_at_two = refl

settle_step : (v : Verdict) → last_at resolved 7 2 1 ≡ record { number = 1; verdict = v }
    → MayStep two_servers resolved (did (Settled 1 v))
settle_step v e = (
  (
    refl,
    (
      record { cut = record { home = 1; last = 2 }; frozen = refl; last = refl },
      (2, inr (record { up = refl; some = omega arith; last = e })),
    ),
  ),
  tt,
)

third_named : (cell : PlainCell) → other_file.uniq ≡ created_in (full_of (done_on cell 1 7)) + 1
    → AreNamed cell 1 7 third.op
third_named cell number = record {
  known = λ f m. mentioned other_file f (IsNext 7 (done_on cell 1 7) 1 third.op f ⊎ IsMade 7 (done_on cell f.vnode 7) f) m
      (λ e. inr (root_made cell f e)) (λ e. inl (next_at other_file (98 ∷ []) (done_on cell 1 7) refl refl number f e));
  next = λ f e. next_at other_file (98 ∷ []) (done_on cell 1 7) refl refl number f e;
}

fresh_third : (f : Fid) → same_fid other_file f ≡ true → any_record (mentioning f) (creation ∷ removal ∷ []) ≡ false
fresh_third f e =
    subst (λ g. any_record (mentioning g) (creation ∷ removal ∷ []) ≡ false) (fid_true other_file f e) refl

operate_step : (v : Verdict) → MayStep two_servers (settled v) (did (Operated third))
operate_step Applied = (
  (refl, (record { next = refl; fresh = λ f c. refl; empty = tt }, third_named (settled Applied) refl)),
  λ f e.
      numbered_at other_file f 2 refl refl refl e,
)
operate_step (Conflict number why) = (
  (
    refl,
    (
      record { next = refl; fresh = fresh_third; empty = tt },
      third_named (settled (Conflict number why))
          refl,
    ),
  ),
  λ f e. numbered_at other_file f 2 refl refl refl e,
)

freeze_step : (v : Verdict) → MayStep two_servers (operated v) (did (Froze 2 2 3))
freeze_step Applied =
    ((refl, (record { thawed = refl; next = refl; pending = omega arith; there = omega arith; ends = refl }, tt)), tt)
freeze_step (Conflict number why) =
    ((refl, (record { thawed = refl; next = refl; pending = omega arith; there = omega arith; ends = refl }, tt)), tt)

decide_step : (v : Verdict) → MayStep two_servers (frozen v) (move_of (Decided 1 2 (span_by v)) 2)
decide_step Applied = (
  (
    refl,
    refl,
    (
      inr (record {
        up = refl;
        cut = record { home = 2; last = 3 };
        frozen = refl;
        home = refl;
        last = refl;
      }),
      refl,
    ),
  ),
  inr (inl refl),
)
decide_step (Conflict number why) = (
  (
    refl,
    refl,
    (
      inr (record {
        up = refl;
        cut = record { home = 2; last = 3 };
        frozen = refl;
        home = refl;
        last = refl;
      }),
      refl,
    ),
  ),
  inr (inl refl),
)

steps_by : Verdict → List GroupStep
steps_by v =
    did (Operated creation) ∷ did (Operated removal) ∷ did (Froze 1 1 2) ∷ move_of
    (Decided 1 1 (creation ∷ removal ∷ [])) 1 ∷ resolution ∷ did (Settled 1 v) ∷ did (Operated third) ∷ did
    (Froze 2 2 3) ∷ move_of (Decided 1 2 (span_by v)) 2 ∷ []

runs_by : (v : Verdict) → last_at resolved 7 2 1 ≡ record { number = 1; verdict = v }
    → GroupStepped two_servers empty_cell (steps_by v) (final v)
unfolding steps_by
runs_by v e = (
  first_steps,
  (
    second_step,
    (
      third_step,
      (fourth_step, (may_resolve, (settle_step v e, (operate_step v, (freeze_step v, (decide_step v, refl)))))),
    ),
  ),
)

pub some_chunk_is_taken_over : SomeChunkIsTakenOver
some_chunk_is_taken_over =
    let v = (lasts 1).verdict in
    (steps_by v, (final v, (runs_by v kept_at_two, ((_, (inl refl, refl)), (_, (inl refl, refl))))))
