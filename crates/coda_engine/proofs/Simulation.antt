-- What a machine reports, a plainer machine reports whose states it shows.
use Rattle.std.proofs.Common.{ℕ, Bool, List, [], ◌∷◌, refl, Option}
use Rattle.coda_engine.specs.Machine.{Gives, Refuses}
use Rattle.coda_engine.specs.Run.{Runs, Ran, BrokeOff, Answers, Reports, is_at_end}
use Rattle.coda_engine.specs.declared.status.Kind.{Kind}
use Rattle.coda_engine.specs.declared.status.Status.{Status}
use Rattle.coda_engine.specs.declared.status.Status.TheVariants.{Done, Usage, Script, SourceFault, SinkFault, TooLong, BayFault, Memory}

-- Each line that the machine may run from a state that shows a plain one, the plain machine may run with the same text and
-- the same answers of the outside, and the states after are such again; and what the machine refuses, the plain one refuses.
pub record Simulates {P M : Type 0} (Shows : P → M → Type 0) (plain : Gives P) (plain_refuses : Refuses P) (gives : Gives M) (refuses : Refuses M) : Type 0 where
  pub step : (p : P) (m m' : M) (line text : List ℕ) (outside : List (List ℕ)) → Shows p m → gives m line text outside m' → (p' : P) × plain p line text outside p' × Shows p' m'
  pub refusal : (p : P) (m : M) (line : List ℕ) (column : ℕ) (kind : Kind) → Shows p m → refuses m line column kind → plain_refuses p line column kind

-- a run of lines
pub runs_shown : {P M : Type 0} {Shows : P → M → Type 0} {plain : Gives P} {plain_refuses : Refuses P} {gives : Gives M} {refuses : Refuses M} → Simulates Shows plain plain_refuses gives refuses
    → (p : P) (m m' : M) (ls : List (List ℕ)) (report : List ℕ) (outside : List (List ℕ)) → Shows p m → Runs gives m ls report outside m'
    → (p' : P) × Runs plain p ls report outside p' × Shows p' m'
runs_shown sim p m m' [] report outside shows run = (p, (run.0, run.1, refl), rw run.2 shows)
runs_shown sim p m m' (line ∷ more) report outside shows run =
    let s = sim.step p m run.0 line run.1 run.3 shows run.5 in
    let rest = runs_shown sim s.0 run.0 m' more run.2 run.4 s.2 run.6 in
    (rest.0, (s.0, run.1, run.2, run.3, run.4, s.1, rest.1, run.7, run.8), rest.2)

-- the lines in front of what was read
pub ran_shown : {P M : Type 0} {Shows : P → M → Type 0} {plain : Gives P} {plain_refuses : Refuses P} {gives : Gives M} {refuses : Refuses M} → Simulates Shows plain plain_refuses gives refuses
    → (p : P) (m m' : M) (all : Bool) (read front rest report : List ℕ) (outside : List (List ℕ)) → Shows p m → Ran gives m all read front rest report outside m'
    → (p' : P) × Ran plain p all read front rest report outside p' × Shows p' m'
ran_shown sim p m m' all read front rest report outside shows ran =
    let run = runs_shown sim p m m' _ report outside shows ran.runs in
    (run.0, record { split = ran.split; whole = ran.whole; within = ran.within; runs = run.1 }, run.2)

-- the lines in front of what was read, the last with a reply that was written in part
pub broke_shown : {P M : Type 0} {Shows : P → M → Type 0} {plain : Gives P} {plain_refuses : Refuses P} {gives : Gives M} {refuses : Refuses M} → Simulates Shows plain plain_refuses gives refuses
    → (p : P) (m m' : M) (all : Bool) (read front rest written : List ℕ) (outside : List (List ℕ)) → Shows p m → BrokeOff gives m all read front rest written outside m'
    → (p' : P) × BrokeOff plain p all read front rest written outside p' × Shows p' m'
broke_shown sim p m m' all read front rest written outside shows b =
    let run = runs_shown sim p m b.state b.before b.report b.answers shows b.runs in
    let last = sim.step run.0 b.state m' b.line b.text b.answered run.2 b.did in (
      last.0,
      record {
        split = b.split;
        whole = b.whole;
        within = b.within;
        before = b.before;
        line = b.line;
        same = b.same;
        report = b.report;
        answers = b.answers;
        state = run.0;
        runs = run.1;
        text = b.text;
        answered = b.answered;
        did = last.1;
        missing = b.missing;
        some = b.some;
        wrote = b.wrote;
        late = b.late;
        said = b.said;
      },
      last.2,
    )

-- the answers of a run, by its status
pub answers_shown : {P M : Type 0} {Shows : P → M → Type 0} {plain : Gives P} {plain_refuses : Refuses P} {gives : Gives M} {refuses : Refuses M} → Simulates Shows plain plain_refuses gives refuses
    → (p : P) (m m' : M) (all : Bool) (read written : List ℕ) (outside : List (List ℕ)) (status : Status) → Shows p m → Answers gives refuses m m' all read written outside status
    → (p' : P) × Answers plain plain_refuses p p' all read written outside status × Shows p' m'
answers_shown sim p m m' all read written outside Done shows a =
    let ran = ran_shown sim p m m' all read read [] written outside shows a.1 in
    (ran.0, (a.0, ran.1), ran.2)
answers_shown sim p m m' all read written outside Usage shows a = absurd a
answers_shown sim p m m' all read written outside (Script line column kind) shows a =
    let ran = ran_shown sim p m m' _ read a.0 a.1 written outside shows a.3 in
    (ran.0, (a.0, a.1, a.2, ran.1, a.4, sim.refusal ran.0 m' a.2 column kind ran.2 a.5, a.6), ran.2)
answers_shown sim p m m' all read written outside TooLong shows a =
    let ran = ran_shown sim p m m' _ read a.0 a.1 written outside shows a.2 in
    (ran.0, (a.0, a.1, ran.1, a.3), ran.2)
answers_shown sim p m m' all read written outside SourceFault shows a =
    let ran = ran_shown sim p m m' _ read a.0 a.1 written outside shows a.2 in
    (ran.0, (a.0, a.1, ran.1, a.3, a.4), ran.2)
answers_shown sim p m m' all read written outside SinkFault shows a =
    let broke = broke_shown sim p m m' all read a.0 a.1 written outside shows a.2 in
    (broke.0, (a.0, a.1, broke.1), broke.2)
answers_shown sim p m m' all read written outside BayFault shows a =
    let ran = ran_shown sim p m m' _ read a.0 a.1 written outside shows a.3 in
    (ran.0, (a.0, a.1, a.2, ran.1, a.4), ran.2)
answers_shown sim p m m' all read written outside Memory shows a =
    let ran = ran_shown sim p m m' all read a.0 a.1 a.2 outside shows a.3 in
    (ran.0, (a.0, a.1, a.2, ran.1, a.4), ran.2)

-- What a run of the machine reports, a run of the plain machine reports, and the state of the first after the last line that ran shows
-- that of the second.
pub reports_shown : {P M : Type 0} {Shows : P → M → Type 0} {plain : Gives P} {plain_refuses : Refuses P} {gives : Gives M} {refuses : Refuses M} → Simulates Shows plain plain_refuses gives refuses
    → (p : P) (m m' : M) (left_old left_new held_old held_new : Option (List ℕ)) (outside : List (List ℕ)) (status : Status) → Shows p m
    → Reports gives refuses m m' left_old left_new held_old held_new outside status
    → (p' : P) × Reports plain plain_refuses p p' left_old left_new held_old held_new outside status × Shows p' m'
reports_shown sim p m m' left_old left_new held_old held_new outside status shows r =
    let a = answers_shown sim p m m' (is_at_end left_new) r.0 r.1 outside status shows r.4 in
    (a.0, (r.0, r.1, r.2, r.3, a.1, r.5), a.2)
