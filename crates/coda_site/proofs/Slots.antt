-- Slots that stand for plain actors which are up.
use Rattle.std.proofs.Common.{◌≡◌, ◌≤◌, ℕ, ◌+◌, List, ◌∷◌, ◌++◌, length, drop, arith, Bool, true, false, Option, Some, None, refl, sym, ap, ◌∙◌, inl, inr}
use Rattle.std.specs.Prelude.{not, is_some, IsSome}
use Rattle.std.specs.Borrow.{MutBor}
use Rattle.std.specs.Option.{option_copied_mut}
use Rattle.std.specs.Int.{w32}
use Rattle.std.proofs.lemmas.Bool.{false≢true}
use Rattle.std.proofs.lemmas.List.{length-append, length-take}
use Rattle.coda_disk.specs.Told.{Told}
use Rattle.coda_journal.specs.Entries.{blocks}
use Rattle.coda_journal.specs.Header.{area_bytes}
use Rattle.coda_journal.specs.Image.{Reads, area_of, start_of}
use Rattle.coda_journal.specs.declared.header.Header.{Header}
use Rattle.coda_actors.specs.Form.{Form}
use Rattle.coda_actors.specs.Plain.{PlainActor}
use Rattle.coda_actors.specs.Fits.{FitsUp, Fits}
use Rattle.coda_actors.specs.Slots.{is_made, is_up}
use Rattle.coda_actors.specs.declared.slot.Slot.{Slot}
use Rattle.coda_actors.specs.declared.slot.Slot.TheVariants.{Vacant, Spare, Stopped, Started}
use Rattle.coda_crew.specs.Crews.{slot_or_vacant}
use Rattle.coda_shelves.specs.Cells.{asked, is_up as is_life_up}

-- a slot whose actor is up
pub record IsStarted {A D : Type 0} (form : Form A D) (out : Bool) (slot : Slot A D) (plain : PlainActor form.Entry) : Type 0 where
  pub header : Header
  pub actor : A
  pub is : slot ≡ Started header actor
  pub fits : FitsUp form header actor plain
  pub lent : out ≡ true

module _ {A D : Type 0} (form : Form A D) (told : D → Told) (out : Bool) (has : Told) where
  pub started : (slot : Slot A D) (plain : PlainActor form.Entry) → Fits form told out has slot plain → is_up form slot ≡ true → IsStarted form out slot plain
  started Vacant plain fits up = absurd (false≢true up)
  started (Spare disk) plain fits up = absurd (false≢true up)
  started (Stopped header disk) plain fits up = absurd (false≢true up)
  started (Started header actor) plain fits up = elim fits.1 [
    | inl on ↦ record { header = header; actor = actor; is = refl; fits = on; lent = fits.0 }
    | inr down ↦ absurd (false≢true (sym (ap not down.0) ∙ up))
  ]

module _ {A D : Type 0} (form : Form A D) (told : D → Told) (out : Bool) (has : Told) (plain : PlainActor form.Entry) where
  -- it was made where the plain actor asks for a header
  pub made_so : (slot : Slot A D) → Fits form told out has slot plain → is_made slot ≡ is_some (asked plain.life)
  made_so Vacant fits = ap (λ l. is_some (asked l)) (sym fits.1.life)
  made_so (Spare disk) fits = ap (λ l. is_some (asked l)) (sym fits.1.life)
  made_so (Stopped header disk) fits = ap (λ l. is_some (asked l)) (sym fits.1.life)
  made_so (Started header actor) fits = elim fits.1 [ inl up ↦ ap (λ l. is_some (asked l)) (sym up.life) | inr down ↦ ap (λ l. is_some (asked l)) (sym down.1.life) ]

  -- and it is up where that one is
  pub up_so : ((header : Header) (actor : A) → form.IsUp header actor plain.disk.history → form.is_down actor ≡ false) → (slot : Slot A D) → Fits form told out has slot plain → is_up form slot ≡ is_life_up plain.life
  up_so runs Vacant fits = ap is_life_up (sym fits.1.life)
  up_so runs (Spare disk) fits = ap is_life_up (sym fits.1.life)
  up_so runs (Stopped header disk) fits = ap is_life_up (sym fits.1.life)
  up_so runs (Started header actor) fits = elim fits.1 [ inl up ↦ ap not (runs header actor up.up) ∙ ap is_life_up (sym up.life) | inr down ↦ ap not down.0 ∙ ap is_life_up (sym down.1.life) ]

-- what a disk reads as has room in its area, with a gate behind it
pub reads_fit : (header : Header) (image : List ℕ) (payloads : List (List ℕ)) → Reads header image payloads → length (blocks w32 payloads) + 1 ≤ area_bytes header
reads_fit header image payloads reads =
    let held = reads.entries in
    let long = length-take (area_bytes header) (drop (start_of header image) image) in
    let whole : length (area_of header image) ≡ length (blocks w32 payloads ++ held.gate ∷ held.rest) = ap length held.is in
    let split = length-append (blocks w32 payloads) (held.gate ∷ held.rest) in
    omega (arith, long, whole, split)

-- an actor that is up has a place, which can be lent
pub lent_there : {A D : Type 0} (form : Form A D) (lent : Option (MutBor (Slot A D))) → is_up form (slot_or_vacant (option_copied_mut lent)) ≡ true → IsSome lent
lent_there form None up = absurd (false≢true up)
lent_there form (Some slot) up = refl
