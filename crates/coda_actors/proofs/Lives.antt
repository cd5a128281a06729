-- What holds of a plain actor over all that is done to it.
use Rattle.std.proofs.Common.{◌≡◌, ◌≢◌, ◌⊎◌, inl, inr, ⊎_elim, ℕ, List, [], ◌∷◌, ◌++◌, refl, sym, ◌∙◌, ap, subst}
use Rattle.std.proofs.lemmas.List.{append-nil, append_assoc}
use Rattle.std.specs.Prelude.{Option, Some, None, IfSome}
use Rattle.coda_disk.specs.Told.{Told}
use Rattle.coda_journal.specs.Image.{ReadsAs}
use Rattle.coda_journal.specs.Open.{Stands}
use Rattle.coda_journal.specs.declared.header.Header.{Header}
use Rattle.coda_actors.specs.Form.{Form, payloads_of}
use Rattle.coda_actors.specs.Plain.{PlainDisk, PlainActor, Life, Unmade, Down, Up, Deed, Opens, Adds, Fails, Crashes, Recovers, Arms, Leaves, Joins, Tries, HasOther, Mounts, MayHave, Step, Runs}
use Rattle.coda_actors.specs.Fits.{IsLawful, Echoes, FitsUp, FitsDown, FitsHeld}
use Rattle.coda_actors.specs.Laws.{EntriesStay, AreRefused, CrashesAreRecovered, IsAtRest, ActorsStayAtRest, IsAnothers, OwnHeadersAreServed}
use Rattle.coda_actors.specs.declared.slot.Mounting.{Mounting}
use Rattle.coda_actors.specs.declared.slot.Mounting.TheVariants.{Entries, Foreign, DiskFault, Memory}
use Rattle.coda_actors.specs.declared.slot.Slot.{Slot}
use Rattle.coda_actors.specs.declared.slot.Slot.TheVariants.{Vacant, Spare, Stopped, Started}

-- the list goes on behind the old one
abbrev pub GoesOn : {E : Type 0} → List E → List E → Type 0
GoesOn {E} old new = (rest : List E) × (new ≡ old ++ rest)

still : {E : Type 0} (old new : List E) → new ≡ old → GoesOn old new
still old new is = ([], is ∙ sym (append-nil old))

on_and_on : {E : Type 0} (a b c : List E) → GoesOn a b → GoesOn b c → GoesOn a c
on_and_on a b c first then = (first.0 ++ then.0, then.1 ∙ ap (λ l. l ++ then.0) first.1 ∙ append_assoc a first.0 then.0)

module _ {E : Type 0} (header : Header) (old new : PlainDisk E) where
  tries_on : Tries header old new → GoesOn old.history new.history
  tries_on (inl same) = still old.history new.history (ap (λ (d : PlainDisk E). d.history) same)
  tries_on (inr given) = still old.history new.history (ap (λ (d : PlainDisk E). d.history) given.1 ∙ sym given.0)

  joins_on : (new.history ≡ old.history) ⊎ ((entry : E) × (old.failed ≡ Some entry) × (new.history ≡ old.history ++ entry ∷ [])) → GoesOn old.history new.history
  joins_on (inl same) = still old.history new.history same
  joins_on (inr more) = (more.0 ∷ [], more.2)

  mounts_on : (mounting : Mounting) → Mounts header old mounting new → GoesOn old.history new.history
  mounts_on (Entries count) m = joins_on m.0.history
  mounts_on (Foreign at) m = still old.history new.history (ap (λ (d : PlainDisk E). d.history) m.1)
  mounts_on DiskFault m = tries_on m
  mounts_on Memory m = tries_on m

module _ {A D : Type 0} (form : Form A D) where
  step_on : (old new : PlainActor form.Entry) (deed : Deed form.Entry) → Step form old deed new → GoesOn old.disk.history new.disk.history
  step_on old new (Opens header mounting) s = mounts_on header old.disk new.disk mounting s.1
  step_on old new (Adds entry) s = (entry ∷ [], ap (λ (p : PlainActor form.Entry). p.disk.history) s.2)
  step_on old new (Fails entry) s = still old.disk.history new.disk.history (ap (λ (p : PlainActor form.Entry). p.disk.history) s.2)
  step_on old new (Crashes image) s = still old.disk.history new.disk.history (ap (λ (p : PlainActor form.Entry). p.disk.history) s.3)
  step_on old new (Recovers mounting) s = mounts_on s.0 old.disk new.disk mounting s.2
  step_on old new Arms s = still old.disk.history new.disk.history (ap (λ (p : PlainActor form.Entry). p.disk.history) s.2)
  step_on old new Leaves s = still old.disk.history new.disk.history (ap (λ (p : PlainActor form.Entry). p.disk.history) s)

  runs_on : (deeds : List (Deed form.Entry)) (old new : PlainActor form.Entry) → Runs form old deeds new → GoesOn old.disk.history new.disk.history
  runs_on [] old new is = still old.disk.history new.disk.history (ap (λ (p : PlainActor form.Entry). p.disk.history) is)
  runs_on (deed ∷ deeds) old new w = on_and_on old.disk.history w.0.disk.history new.disk.history (step_on old w.0 deed w.1) (runs_on deeds w.0 new w.2)

  pub entries_stay : EntriesStay form
  entries_stay old mid new entry deeds s runs =
      let w = runs_on deeds mid new runs in
      (w.0, w.1 ∙ ap (λ (p : PlainActor form.Entry). p.disk.history ++ w.0) s.2 ∙ append_assoc old.disk.history (entry ∷ []) w.0)

  -- ---- at rest

  not_up : (plain : PlainActor form.Entry) (life : Life) → ((header : Header) → life ≢ Up header) → plain.life ≡ life → IsAtRest plain
  not_up plain life never is = λ header up. absurd (never header (sym is ∙ up))

  joined : (plain old : PlainActor form.Entry) (header : Header) → Joins header old.disk plain.disk → plain.life ≡ Up header → plain.left ≡ None → IsAtRest plain
  joined plain old header joins life left = λ asked up. (joins.failed, joins.given ∙ ap Some (one header asked (sym life ∙ up)), left)
    where
      one : (a b : Header) → Up a ≡ Up b → a ≡ b
      one a b same = cc same

  is_rest : (plain new : PlainActor form.Entry) → IsAtRest plain → new ≡ plain → IsAtRest new
  is_rest plain new rest is = subst IsAtRest (sym is) rest

  step_rests : (old new : PlainActor form.Entry) (deed : Deed form.Entry) → IsAtRest old → Step form old deed new → IsAtRest new
  step_rests old new (Opens header (Entries count)) rest s = joined new old header s.1.0 s.2 s.3
  step_rests old new (Opens header (Foreign at)) rest s = not_up new Unmade (λ h e. cc e) s.2
  step_rests old new (Opens header DiskFault) rest s = not_up new (Down header) (λ h e. cc e) s.2
  step_rests old new (Opens header Memory) rest s = not_up new Unmade (λ h e. cc e) s.2
  step_rests old new (Adds entry) rest s = is_rest (record old { disk = record { header = old.disk.header; history = old.disk.history ++ entry ∷ []; failed = old.disk.failed } }) new (λ h up. rest h up) s.2
  step_rests old new (Fails entry) rest s = not_up new (Down s.0) (λ h e. cc e) (ap (λ (p : PlainActor form.Entry). p.life) s.2)
  step_rests old new (Crashes image) rest s = not_up new (Down s.0) (λ h e. cc e) (ap (λ (p : PlainActor form.Entry). p.life) s.3)
  step_rests old new (Recovers (Entries count)) rest s = joined new old s.0 s.2.0 s.4 s.5
  step_rests old new (Recovers (Foreign at)) rest s = not_up new (Down s.0) (λ h e. cc e) s.4
  step_rests old new (Recovers DiskFault) rest s = not_up new (Down s.0) (λ h e. cc e) s.4
  step_rests old new (Recovers Memory) rest s = not_up new (Down s.0) (λ h e. cc e) s.4
  step_rests old new Arms rest s = is_rest old new rest s.2
  step_rests old new Leaves rest s = not_up new Unmade (λ h e. cc e) (ap (λ (p : PlainActor form.Entry). p.life) s)

  runs_rest : (deeds : List (Deed form.Entry)) (old new : PlainActor form.Entry) → IsAtRest old → Runs form old deeds new → IsAtRest new
  runs_rest [] old new rest is = is_rest old new rest is
  runs_rest (deed ∷ deeds) old new rest w = runs_rest deeds w.0 new (step_rests old w.0 deed rest w.1) w.2

  pub actors_stay_at_rest : ActorsStayAtRest form
  actors_stay_at_rest old new deeds = runs_rest deeds old new

  pub held_rests : (told : D → Told) (slot : Slot A D) (plain : PlainActor form.Entry) → FitsHeld form told slot plain → IsAtRest plain
  held_rests told Vacant plain fits = absurd fits
  held_rests told (Spare disk) plain fits = not_up plain Unmade (λ h e. cc e) fits.life
  held_rests told (Stopped header disk) plain fits = not_up plain (Down header) (λ h e. cc e) fits.life
  held_rests told (Started header actor) plain (inl fits) = λ asked up. (fits.failed, fits.given ∙ ap Some (cc (sym fits.life ∙ up)), fits.left)
  held_rests told (Started header actor) plain (inr fits) = not_up plain (Down header) (λ h e. cc e) fits.1.life

  -- ---- what is recovered

  -- since a crash nothing was added, and its image is still the one that was left
  record SinceCrash (mid late : PlainActor form.Entry) : Type 0 where
    history : late.disk.history ≡ mid.disk.history
    failed : (late.disk.failed ≡ mid.disk.failed) ⊎ (late.disk.failed ≡ None)
    left : late.left ≡ mid.left

  tries_since : (header : Header) (mid late : PlainActor form.Entry) → Tries header mid.disk late.disk → late.left ≡ mid.left → SinceCrash mid late
  tries_since header mid late (inl same) left = record { history = ap (λ (d : PlainDisk form.Entry). d.history) same; failed = inl (ap (λ (d : PlainDisk form.Entry). d.failed) same); left = left }
  tries_since header mid late (inr given) left = record { history = ap (λ (d : PlainDisk form.Entry). d.history) given.1 ∙ sym given.0; failed = inr (ap (λ (d : PlainDisk form.Entry). d.failed) given.1); left = left }

  then_failed : (a b c : Option form.Entry) → (b ≡ a) ⊎ (b ≡ None) → (c ≡ b) ⊎ (c ≡ None) → (c ≡ a) ⊎ (c ≡ None)
  then_failed a b c (inl first) (inl then) = inl (then ∙ first)
  then_failed a b c (inr first) (inl then) = inr (then ∙ first)
  then_failed a b c first (inr then) = inr then

  since_then : (a b c : PlainActor form.Entry) → SinceCrash a b → SinceCrash b c → SinceCrash a c
  since_then a b c first then = record { history = then.history ∙ first.history; failed = then_failed a.disk.failed b.disk.failed c.disk.failed first.failed then.failed; left = then.left ∙ first.left }

  since : (tried : List (Deed form.Entry)) (mid late : PlainActor form.Entry) → AreRefused tried → Runs form mid tried late → SinceCrash mid late
  since [] mid late refused is = record { history = ap (λ (p : PlainActor form.Entry). p.disk.history) is; failed = inl (ap (λ (p : PlainActor form.Entry). p.disk.failed) is); left = ap (λ (p : PlainActor form.Entry). p.left) is }
  since (Recovers (Entries count) ∷ tried) mid late refused w = absurd refused
  since (Recovers (Foreign at) ∷ tried) mid late refused w = since_then mid w.0 late (tries_since w.1.0 mid w.0 (inl w.1.2.1) w.1.5) (since tried w.0 late refused w.2)
  since (Recovers DiskFault ∷ tried) mid late refused w = since_then mid w.0 late (tries_since w.1.0 mid w.0 w.1.2 w.1.5) (since tried w.0 late refused w.2)
  since (Recovers Memory ∷ tried) mid late refused w = since_then mid w.0 late (tries_since w.1.0 mid w.0 w.1.2 w.1.5) (since tried w.0 late refused w.2)
  since (Opens header mounting ∷ tried) mid late refused w = absurd refused
  since (Adds entry ∷ tried) mid late refused w = absurd refused
  since (Fails entry ∷ tried) mid late refused w = absurd refused
  since (Crashes image ∷ tried) mid late refused w = absurd refused
  since (Arms ∷ tried) mid late refused w = absurd refused
  since (Leaves ∷ tried) mid late refused w = absurd refused

  found : (old mid late new : PlainActor form.Entry) → mid.disk ≡ old.disk → SinceCrash mid late → (new.disk.history ≡ late.disk.history) ⊎ ((entry : form.Entry) × (late.disk.failed ≡ Some entry) × (new.disk.history ≡ late.disk.history ++ entry ∷ []))
      → (new.disk.history ≡ old.disk.history) ⊎ ((entry : form.Entry) × (old.disk.failed ≡ Some entry) × (new.disk.history ≡ old.disk.history ++ entry ∷ []))
  found old mid late new same since (inl is) = inl (is ∙ since.history ∙ ap (λ (d : PlainDisk form.Entry). d.history) same)
  found old mid late new same since (inr more) =
      ⊎_elim
      (λ kept. inr (more.0, sym (ap (λ (d : PlainDisk form.Entry). d.failed) same) ∙ sym kept ∙ more.1, more.2 ∙ ap (λ l. l ++ more.0 ∷ []) (since.history ∙ ap (λ (d : PlainDisk form.Entry). d.history) same)))
      (λ none. absurd (no_entry more.0 (sym none ∙ more.1)))
      since.failed
    where
      no_entry : (entry : form.Entry) → None ≡ Some entry → ⊥
      no_entry entry e = cc e

  pub crashes_are_recovered : CrashesAreRecovered form
  crashes_are_recovered old mid late new image tried count crash refused runs recovery =
      let s = since tried mid late refused runs in
      let left : late.left ≡ Some image = s.left ∙ ap (λ (p : PlainActor form.Entry). p.left) crash.3 in (
        found old mid late new (ap (λ (p : PlainActor form.Entry). p.disk) crash.3) s recovery.2.0.history,
        (recovery.0, recovery.4, subst (λ (o : Option (List ℕ)). IfSome o (ReadsAs recovery.0 (payloads_of form new.disk.history))) left recovery.3),
      )

  -- ---- foreign disks

  not_own : (header : Header) (at : ℕ) → HasOther header (Some header) at → ⊥
  not_own header at other = other.2.other refl

  anothers : (old new : PlainActor form.Entry) (header : Header) (at : ℕ) → HasOther header old.disk.header at → new.disk ≡ old.disk → IsAnothers header old new
  anothers old new header at other same = ((λ is. not_own header at (subst (λ (o : Option Header). HasOther header o at) is other)), same)

  pub own_headers_are_served : OwnHeadersAreServed form
  own_headers_are_served old new header at = (
    (λ s. anothers old new header at s.1.0 s.1.1),
    (λ down s. anothers old new header at (subst (λ (h : Header). HasOther h old.disk.header at) (one s.0 header (sym s.4 ∙ down)) s.2.0) s.2.1),
  )
    where
      one : (a b : Header) → Down a ≡ Down b → a ≡ b
      one a b same = cc same

  -- ---- entries

  module _ (header : Header) (actor : A) (plain : PlainActor form.Entry) (entry : form.Entry) (fits : FitsUp form header actor plain) where
    pub added : (after : A) → form.IsUp header after (plain.disk.history ++ entry ∷ []) → (new : PlainActor form.Entry) × Step form plain (Adds entry) new × FitsUp form header after new
    added after up = (
      record plain { disk = record { header = plain.disk.header; history = plain.disk.history ++ entry ∷ []; failed = plain.disk.failed } },
      (header, fits.life, refl),
      record { life = fits.life; asked = fits.asked; given = fits.given; failed = fits.failed; left = fits.left; up = up },
    )

    pub failed : (told : Told) → form.IsHistory header plain.disk.history → form.MayFollow header plain.disk.history entry → Stands told header (payloads_of form plain.disk.history) (Some (form.payload_of entry))
        → (new : PlainActor form.Entry) × Step form plain (Fails entry) new × FitsDown form told header new
    failed told lawful may stands = (
      record plain { disk = record { header = plain.disk.header; history = plain.disk.history; failed = Some entry }; life = Down header },
      (header, fits.life, refl),
      record {
        life = refl;
        asked = fits.asked;
        echoes = subst (Echoes form header told) (sym fits.left) tt;
        stands = record {
          honest = stands.honest;
          lawful = subst (λ (o : Option Header). IsLawful form o plain.disk.history (Some entry)) (sym fits.given) (fits.asked, lawful, may);
          each = λ c now. subst (λ (o : Option Header). MayHave form o plain.disk.history (Some entry) c) (sym fits.given) (stands.each c now);
        };
      },
    )
