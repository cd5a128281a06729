-- Lines and letters that name a client, a volume and its server: who is there, and who is up.
use Rattle.std.proofs.Common.{◌≡◌, ℕ, ◌==◌, Bool, true, false, ◌&&◌, ◌||◌, not, List, [], ◌∷◌, Option, Some, None, is_some, option_map, refl, sym, ap, ◌∙◌}
use Rattle.std.specs.Option.{option_map_or}
use Rattle.std.proofs.lemmas.Bool.{false≢true, eqb-true}
use Rattle.coda_disk.specs.Told.{Told}
use Rattle.coda_script.specs.declared.line.Strength.{Strength}
use Rattle.coda_script.specs.declared.line.Strength.TheVariants.{Strong, Weak, Down}
use Rattle.coda_actors.specs.Clients.{client_form}
use Rattle.coda_actors.specs.Replicas.{replica_form}
use Rattle.coda_actors.specs.Slots.{is_made, is_up}
use Rattle.coda_crew.specs.Crews.{slot_at}
use Rattle.coda_cell.specs.Steps.{Named, on_holder, first_missing}
use Rattle.coda_cell.specs.Refused as refused
use Rattle.coda_cell.proofs.Events.{all_there}
use Rattle.coda_shelves.specs.Cells.{Cell, state_of}
use Rattle.coda_shelves.specs.Lines.{client_down, replica_down, is_cut}
use Rattle.coda_site.specs.Shelves.{Shows}
use Rattle.coda_site.specs.Sites.{is_client_disk, place_in, client_at, volume_at, holder_at}
use Rattle.coda_site.specs.declared.site.Place.{Place}
use Rattle.coda_site.specs.declared.site.Site.{Site}
use Rattle.coda_site.proofs.Becomings.{missing_some, missing_none}
use Rattle.coda_site.proofs.Theres.{client_named_at, volume_named_at, holder_named_at, client_down_at, replica_down_at}

-- the three that a line names, by the site
abbrev pub names_in : {D : Type 0} → Site D → ℕ → ℕ → ℕ → List Named
names_in site client volume server = client_at site client ∷ volume_at site volume ∷ holder_at site server volume ∷ []

-- both are up, or not
pub both_down : (a b : Bool) → (a && b) ≡ false → (not a || not b) ≡ true
both_down true true e = (let no : true ≡ false = e in cc)
both_down true false e = refl
both_down false b e = refl

pub both_up : (a b : Bool) → (a && b) ≡ true → (a ≡ true) × (b ≡ true)
both_up true true e = (refl, refl)
both_up true false e = absurd (false≢true e)
both_up false b e = absurd (false≢true e)

held_by : (server : ℕ) (o : Option Place) (place : Place) → o ≡ Some place → option_map_or (λ (p : Place). p.server == server) o false ≡ true → place.server ≡ server
held_by server o place e holds = eqb-true place.server server (ap (λ (x : Option Place). option_map_or (λ (p : Place). p.server == server) x false) (sym e) ∙ holds)

module _ {D : Type 0} (told : D → Told) (out : ℕ → Bool) (has : ℕ → Told) (cell : Cell) (site : Site D) (shows : Shows told out has cell site) (client volume server : ℕ) (here : is_client_disk client ≡ true) where
  names_are : on_holder (state_of cell) client volume server ≡ names_in site client volume server
  names_are = λ i. client_named_at told out has cell site shows client here i ∷ volume_named_at told out has cell site shows volume i ∷ holder_named_at told out has cell site shows server volume i ∷ []

  -- one is missing
  pub missing_named : (result : Option ℕ) (number : ℕ) → result ≡ Some number → option_map refused.NoSuchActor result ≡ first_missing (names_in site client volume server)
      → first_missing (on_holder (state_of cell) client volume server) ≡ Some (refused.NoSuchActor number)
  missing_named result number e missing = ap first_missing names_are ∙ missing_some result (names_in site client volume server) number e missing

  -- or none
  pub none_named : (result : Option ℕ) → result ≡ None → option_map refused.NoSuchActor result ≡ first_missing (names_in site client volume server) → first_missing (on_holder (state_of cell) client volume server) ≡ None
  none_named result e missing = ap first_missing names_are ∙ missing_none result (names_in site client volume server) e missing

  module _ (none : first_missing (on_holder (state_of cell) client volume server) ≡ None) where
    all : first_missing (names_in site client volume server) ≡ None
    all = ap first_missing (sym names_are) ∙ none

    pub made_here : is_made (slot_at site.clients client) ≡ true
    made_here = (all_there (client_at site client) (volume_at site volume) (holder_at site server volume) all).0

    -- the place is the server's
    pub server_at_place : (place : Place) → place_in site volume ≡ Some place → place.server ≡ server
    server_at_place place at = held_by server (place_in site volume) place at (all_there (client_at site client) (volume_at site volume) (holder_at site server volume) all).2

    pub client_down_by : (b : Bool) → is_up (client_form told) (slot_at site.clients client) ≡ b → client_down cell client ≡ not b
    client_down_by b e = client_down_at told out has cell site shows client here made_here ∙ ap not e

    pub replica_down_by : (place : Place) (b : Bool) → place_in site volume ≡ Some place → is_up (replica_form told) (slot_at site.replicas place.disk) ≡ b → replica_down cell server volume ≡ not b
    replica_down_by place b at e = replica_down_at told out has cell site shows server volume place at (server_at_place place at) ∙ ap not e

    -- one of both is down
    pub some_down : (place : Place) → place_in site volume ≡ Some place → (is_up (client_form told) (slot_at site.clients client) && is_up (replica_form told) (slot_at site.replicas place.disk)) ≡ false → (client_down cell client || replica_down cell server volume) ≡ true
    some_down place at down =
        (λ i. client_down_by (is_up (client_form told) (slot_at site.clients client)) refl i || replica_down_by place (is_up (replica_form told) (slot_at site.replicas place.disk)) at refl i)
        ∙ both_down (is_up (client_form told) (slot_at site.clients client)) (is_up (replica_form told) (slot_at site.replicas place.disk)) down

    -- or both are up
    pub none_down : (place : Place) → place_in site volume ≡ Some place → is_up (client_form told) (slot_at site.clients client) ≡ true → is_up (replica_form told) (slot_at site.replicas place.disk) ≡ true → (client_down cell client || replica_down cell server volume) ≡ false
    none_down place at c r = λ i. client_down_by true c i || replica_down_by place true at r i

-- a volume's place, where the three are there
pub no_place : {D : Type 0} (site : Site D) (client volume server : ℕ) → first_missing (names_in site client volume server) ≡ None → place_in site volume ≡ None → ⊥
no_place site client volume server all none = false≢true (ap is_some (sym none) ∙ (all_there (client_at site client) (volume_at site volume) (holder_at site server volume) all).1)

-- a link that carries nothing, or something
pub cut_is : (x : Strength) → not (is_cut x) ≡ false → x ≡ Down
cut_is Strong e = (let no : true ≡ false = e in cc)
cut_is Weak e = (let no : true ≡ false = e in cc)
cut_is Down e = refl

pub a_place : {D : Type 0} (site : Site D) (client volume server : ℕ) → first_missing (names_in site client volume server) ≡ None → (place : Place) × (place_in site volume ≡ Some place)
a_place site client volume server all = by (place_in site volume) refl
  where
    by : (o : Option Place) → place_in site volume ≡ o → (place : Place) × (place_in site volume ≡ Some place)
    by None e = absurd (no_place site client volume server all e)
    by (Some place) e = (place, e)
