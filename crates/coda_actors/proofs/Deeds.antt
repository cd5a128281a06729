-- What each call makes of a plain actor.
use Rattle.std.proofs.Common.{◌≡◌, ℕ, Bool, true, List, refl, sym, subst}
use Rattle.std.proofs.lemmas.Bool.{false≢true}
use Rattle.std.specs.Prelude.{Some, None}
use Rattle.coda_disk.specs.Told.{Told, Kept}
use Rattle.coda_disk.specs.Bays.{Crashed}
use Rattle.coda_journal.specs.Image.{ReadsAs}
use Rattle.coda_journal.specs.Mount.{NotMounted}
use Rattle.coda_journal.specs.declared.header.Header.{Header}
use Rattle.coda_journal.specs.declared.mounting.MountFault.TheVariants.{DiskFault as FaultOfDisk}
use Rattle.coda_actors.specs.Form.{Form, payloads_of, IsAsked, IsOwnDisk, Mounted, WhyForeign}
use Rattle.coda_actors.specs.Plain.{PlainActor, Unmade, Down, Up, Opens, Recovers, Tries, Step}
use Rattle.coda_actors.specs.Fits.{FitsUnmade, FitsDown, FitsUp, FitsHeld, Fits, Stays}
use Rattle.coda_actors.specs.declared.slot.Mounting.TheVariants.{Entries, Foreign, DiskFault, Memory}
use Rattle.coda_actors.specs.Slots.{is_made}
use Rattle.coda_actors.specs.declared.slot.Slot.{Slot}
use Rattle.coda_actors.specs.declared.slot.Slot.TheVariants.{Vacant, Spare, Stopped, Started}
use Rattle.coda_actors.proofs.Mountings.{AreHistories, read_as, joins, tries, echoes_on, echo_read, foreign, fewer, echoes_fewer}

pub kept_unmade : {A D : Type 0} (form : Form A D) (t0 t1 : Told) (plain : PlainActor form.Entry) → Kept t0 t1 → FitsUnmade form t0 plain → FitsUnmade form t1 plain
kept_unmade form t0 t1 plain kept fits = record { life = fits.life; left = fits.left; stands = fewer form t0 t1 plain.disk fits.stands kept.honest kept.crash }

module _ {A D : Type 0} (form : Form A D) where
  pub crashed_down : (t0 t1 : Told) (header : Header) (plain : PlainActor form.Entry) (image : List ℕ) → Stays form t0 header plain → Crashed image t0 t1
      → FitsDown form t1 header (record { disk = plain.disk; life = Down header; left = Some image })
  crashed_down t0 t1 header plain image stays crashed = record {
    life = refl;
    asked = stays.asked;
    echoes = λ c history now reads. subst (λ (l : List ℕ). ReadsAs header (payloads_of form history) l) (crashed.only c now) reads;
    stands = fewer form t0 t1 plain.disk stays.stands crashed.honest (λ c now. subst t0.may_leave (sym (crashed.only c now)) crashed.allowed);
  }

module _ {A D : Type 0} (form : Form A D) (are : AreHistories form) (header : Header) (asked : IsAsked form header) (plain : PlainActor form.Entry) (t0 : Told) (seen : t0.may_leave t0.seen) where
  abbrev up_as : List form.Entry → PlainActor form.Entry
  up_as history = record { disk = read_as form header history; life = Up header; left = None }

  module _ (actor : A) (count : ℕ) (m : Mounted form header t0 actor count) (lawful : form.IsHistory header m.history) where
    up_fits : FitsUp form header actor (up_as m.history)
    up_fits = record { life = refl; asked = asked; given = refl; failed = refl; left = refl; up = m.up }

    pub opens : FitsUnmade form t0 plain → (new : PlainActor form.Entry) × Step form plain (Opens header (Entries count)) new × FitsUp form header actor new
    opens fits = (up_as m.history, (fits.life, (joins form are t0 plain.disk header m.history asked fits.stands seen lawful m.was, m.counts), refl, refl), up_fits)

    pub recovers : Stays form t0 header plain → (new : PlainActor form.Entry) × Step form plain (Recovers (Entries count)) new × FitsUp form header actor new
    recovers stays = (
      up_as m.history,
      (header, stays.asks, (joins form are t0 plain.disk header m.history asked stays.stands seen lawful m.was, m.counts), echo_read form are header plain.left t0 m.history stays.echoes seen m.was, refl, refl),
      up_fits,
    )

  module _ (t1 : Told) (not : NotMounted header t0 t1 FaultOfDisk) where
    pub opens_fault : FitsUnmade form t0 plain → (new : PlainActor form.Entry) × Step form plain (Opens header DiskFault) new × FitsDown form t1 header new
    opens_fault fits =
        let w = tries form are t0 t1 plain.disk header asked fits.stands seen not in
        (record { disk = w.0; life = Down header; left = None }, (fits.life, w.1, refl, refl), record { life = refl; asked = asked; echoes = tt; stands = w.2 })

    pub opens_memory : FitsUnmade form t0 plain → (new : PlainActor form.Entry) × Step form plain (Opens header Memory) new × FitsUnmade form t1 new
    opens_memory fits =
        let w = tries form are t0 t1 plain.disk header asked fits.stands seen not in
        (record { disk = w.0; life = Unmade; left = None }, (fits.life, w.1, refl, refl), record { life = refl; left = refl; stands = w.2 })

    recovers_not : Stays form t0 header plain → (new : PlainActor form.Entry) × Tries header plain.disk new.disk × (new.life ≡ Down header) × (new.left ≡ plain.left) × FitsDown form t1 header new
    recovers_not stays =
        let w = tries form are t0 t1 plain.disk header asked stays.stands seen not in
        (record { disk = w.0; life = Down header; left = plain.left }, w.1, refl, refl, record { life = refl; asked = asked; echoes = echoes_on form are header plain.left t0 t1 asked.whole stays.echoes seen not; stands = w.2 })

    pub recovers_fault : Stays form t0 header plain → (new : PlainActor form.Entry) × Step form plain (Recovers DiskFault) new × FitsDown form t1 header new
    recovers_fault stays = let w = recovers_not stays in (w.0, (header, stays.asks, w.1, tt, w.2, w.3), w.4)

    pub recovers_memory : Stays form t0 header plain → (new : PlainActor form.Entry) × Step form plain (Recovers Memory) new × FitsDown form t1 header new
    recovers_memory stays = let w = recovers_not stays in (w.0, (header, stays.asks, w.1, tt, w.2, w.3), w.4)

  module _ (t1 : Told) (at : ℕ) (honest : t1.honest) (never : IsOwnDisk form header t0 → ⊥) (why : WhyForeign header t0 t1 at) where
    pub opens_foreign : FitsUnmade form t0 plain → (new : PlainActor form.Entry) × Step form plain (Opens header (Foreign at)) new × FitsUnmade form t1 new
    opens_foreign fits = (
      record { disk = plain.disk; life = Unmade; left = None },
      (fits.life, (foreign form are t0 t1 plain.disk header at asked fits.stands seen never why, refl), refl, refl),
      record { life = refl; left = refl; stands = fewer form t0 t1 plain.disk fits.stands honest why.0 },
    )

    pub recovers_foreign : Stays form t0 header plain → (new : PlainActor form.Entry) × Step form plain (Recovers (Foreign at)) new × FitsDown form t1 header new
    recovers_foreign stays = (
      record { disk = plain.disk; life = Down header; left = plain.left },
      (header, stays.asks, (foreign form are t0 t1 plain.disk header at asked stays.stands seen never why, refl), tt, refl, refl),
      record { life = refl; asked = asked; echoes = echoes_fewer form header plain.left t0 t1 stays.echoes why.0; stands = fewer form t0 t1 plain.disk stays.stands honest why.0 },
    )

module _ {A D : Type 0} (form : Form A D) (told : D → Told) (out : Bool) (has : Told) where
  -- a slot that has the disk fits where its number is out
  pub placed : (slot : Slot A D) (plain : PlainActor form.Entry) → out ≡ true → FitsHeld form told slot plain → Fits form told out has slot plain
  placed Vacant plain is fits = absurd fits
  placed (Spare disk) plain is fits = (is, fits)
  placed (Stopped header disk) plain is fits = (is, fits)
  placed (Started header actor) plain is fits = (is, fits)

  -- a slot that has the disk and fits
  pub held : (slot : Slot A D) (plain : PlainActor form.Entry) → is_made slot ≡ true → Fits form told out has slot plain → (out ≡ true) × FitsHeld form told slot plain
  held Vacant plain made fits = absurd (false≢true made)
  held (Spare disk) plain made fits = fits
  held (Stopped header disk) plain made fits = fits
  held (Started header actor) plain made fits = fits

  -- the disk that a bay gave
  pub taken : (slot : Slot A D) (plain : PlainActor form.Entry) (disk got : D) → slot ≡ Vacant → disk ≡ got → (has.honest → Kept has (told got)) → Fits form told out has slot plain → FitsUnmade form (told disk) plain
  taken slot plain disk got vacant is kept fits =
      let f : Fits form told out has Vacant plain = subst (λ (s : Slot A D). Fits form told out has s plain) vacant fits in
      subst (λ (d : D). FitsUnmade form (told d) plain) (sym is) (kept_unmade form has (told got) plain (kept f.1.stands.honest) f.1)

  -- the disk that the slot had
  pub spared : (slot : Slot A D) (plain : PlainActor form.Entry) (disk had : D) → slot ≡ Spare had → disk ≡ had → Fits form told out has slot plain → FitsUnmade form (told disk) plain
  spared slot plain disk had spare is fits =
      let f : Fits form told out has (Spare had) plain = subst (λ (s : Slot A D). Fits form told out has s plain) spare fits in
      subst (λ (d : D). FitsUnmade form (told d) plain) (sym is) f.1

  pub spared_out : (slot : Slot A D) (plain : PlainActor form.Entry) (had : D) → slot ≡ Spare had → Fits form told out has slot plain → out ≡ true
  spared_out slot plain had spare fits = let f : Fits form told out has (Spare had) plain = subst (λ (s : Slot A D). Fits form told out has s plain) spare fits in f.0
