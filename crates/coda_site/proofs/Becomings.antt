-- What a line leaves of a site: by who is missing and who is down, and by how a client's call ended.
use Rattle.std.proofs.Common.{◌≡◌, inl, inr, ℕ, Bool, true, false, ◌&&◌, List, [], ◌∷◌, append-nil, map, Option, Some, None, Result, Ok, Err, refl, sym, ap, subst, ◌∙◌}
use Rattle.std.proofs.lemmas.List.{map-append}
use Rattle.std.specs.Prelude.{not, is_some}
use Rattle.std.specs.Option.{option_map}
use Rattle.coda_disk.specs.Told.{Told}
use Rattle.coda_plain.specs.Cell.{ClientEntry}
use Rattle.coda_plain.specs.Moves.{AtClient}
use Rattle.coda_script.specs.declared.line.Line.{Line}
use Rattle.coda_script.specs.declared.reply.Reply.{Reply}
use Rattle.coda_venus.specs.declared.refused.Refused.{Refused as VenusRefused}
use Rattle.coda_venus.specs.declared.refused.Refused.TheVariants as reason
use Rattle.coda_cell.specs.Refusing.{refusal}
use Rattle.coda_cell.specs.State.{Event, at_client}
use Rattle.coda_cell.specs.Steps.{Does, Named, Doing, Naming, Unless, first_missing, reply_to}
use Rattle.coda_cell.specs.Refused.{Refused}
use Rattle.coda_cell.specs.Refused as refused
use Rattle.coda_matching.specs.Clients.{Cut}
use Rattle.coda_cell.specs.Refusing.{client_refused_as}
use Rattle.coda_shelves.specs.Cells.{Cell, after, after_all}
use Rattle.coda_shelves.specs.Lines.{refused_down, refused_full, refused_fault, meets, FitsOne, Fits as FitsEvents, Stop, EndsBy, Acts, Becoming, UnlessDown}
use Rattle.coda_site.specs.Sites.{IsSite}
use Rattle.coda_site.specs.Steps.{Becomes}
use Rattle.coda_site.specs.declared.site.Site.{Site}
use Rattle.coda_site.proofs.ClientSites.{Leaves}

-- ---- refusals of those who are missing

-- a refusal by the first that isn't there
pub named_missing : (names : List Named) (why : Refused) (own : Doing) (reply : Reply) → first_missing names ≡ Some why → reply ≡ refusal why → Naming names own reply []
named_missing names why own reply missing said = subst (λ (o : Option Refused). Unless o own reply []) (sym missing) (said, refl)

-- all of them are there
pub named_there : (names : List Named) (own : Doing) (reply : Reply) (events : List Event) → first_missing names ≡ None → own reply events → Naming names own reply events
named_there names own reply events none is = subst (λ (o : Option Refused). Unless o own reply events) (sym none) is

-- the number of the first that is missing, or none
pub missing_some : (result : Option ℕ) (names : List Named) (number : ℕ) → result ≡ Some number → option_map refused.NoSuchActor result ≡ first_missing names → first_missing names ≡ Some (refused.NoSuchActor number)
missing_some result names number is ensures = sym ensures ∙ ap (option_map refused.NoSuchActor) is

pub missing_none : (result : Option ℕ) (names : List Named) → result ≡ None → option_map refused.NoSuchActor result ≡ first_missing names → first_missing names ≡ None
missing_none result names is ensures = sym ensures ∙ ap (option_map refused.NoSuchActor) is

-- ---- lines, by who is down

-- all the actors are there that a line names
abbrev pub all_there : List Named → Bool
all_there names = not (is_some (first_missing names))

module _ {D : Type 0} (told : D → Told) (out : ℕ → Bool) (has : ℕ → Told) (cell : Cell) (names : List Named) (down : Bool) (own : Becoming) (reply : Reply) (answered : List (List ℕ)) (site : Site D) where
  down_so : (b : Bool) (outside : List (List ℕ)) (left : Cell) → (all_there names && down) ≡ b → UnlessDown b cell own reply outside left → UnlessDown (all_there names && down) cell own reply outside left
  down_so b outside left is happens = subst (λ (x : Bool). UnlessDown x cell own reply outside left) (sym is) happens

  -- it is refused, and nothing else happens
  pub missing_becomes : (why : Refused) → first_missing names ≡ Some why → own reply [] cell → IsSite told out has cell site → Becomes told out has (UnlessDown (all_there names && down) cell own) reply answered answered site
  missing_becomes why missing happens is = record {
    outside = [];
    left = cell;
    happens = down_so false [] cell (ap (λ (o : Option Refused). not (is_some o) && down) missing) happens;
    answered = sym (append-nil answered);
    stands = is;
  }

  pub down_becomes : first_missing names ≡ None → down ≡ true → reply ≡ refused_down → IsSite told out has cell site → Becomes told out has (UnlessDown (all_there names && down) cell own) reply answered answered site
  down_becomes there is_down said is = record {
    outside = [];
    left = cell;
    happens = down_so true [] cell (ap (λ (o : Option Refused). not (is_some o) && down) there ∙ is_down) (said, refl, refl);
    answered = sym (append-nil answered);
    stands = is;
  }

  pub up_becomes : first_missing names ≡ None → down ≡ false → (left : Cell) → own reply [] left → IsSite told out has left site → Becomes told out has (UnlessDown (all_there names && down) cell own) reply answered answered site
  up_becomes there is_up left happens is = record {
    outside = [];
    left = left;
    happens = down_so false [] left (ap (λ (o : Option Refused). not (is_some o) && down) there ∙ is_up) happens;
    answered = sym (append-nil answered);
    stands = is;
  }

-- a line that says this, and by which nothing happens
pub says : (cell : Cell) (said : Line) (reply : Reply) → Does (meets cell said) said reply [] → Acts cell said reply cell
says cell said reply does = record { own = reply; events = []; does = does; ends = inl (tt, refl, refl) }

-- a line by which one thing happens that no disk keeps
pub happens : (cell : Cell) (said : Line) (reply : Reply) (event : Event) → FitsOne cell event → Does (meets cell said) said reply (event ∷ []) → Acts cell said reply (after cell event)
happens cell said reply event fits does = record { own = reply; events = event ∷ []; does = does; ends = inl ((fits, tt), refl, refl) }

-- a line is what another one is
pub becomes_as : {D : Type 0} (told : D → Told) (out : ℕ → Bool) (has : ℕ → Told) (one other : Becoming) (reply : Reply) (old new : List (List ℕ)) (site : Site D)
    → ((outside : List (List ℕ)) (left : Cell) → one reply outside left → other reply outside left) → Becomes told out has one reply old new site → Becomes told out has other reply old new site
becomes_as told out has one other reply old new site as_one b = record { outside = b.outside; left = b.left; happens = as_one b.outside b.left b.happens; answered = b.answered; stands = b.stands }

-- ---- how a client's call ends

-- what is replied by how a call ended
abbrev pub RepliesTo : {B : Type 0} → (B → Reply) → Result B VenusRefused → Reply → Type 0
RepliesTo f (Ok b) reply = reply ≡ f b
RepliesTo f (Err reason.JournalFull) reply = reply ≡ refused_full
RepliesTo f (Err reason.DiskFault) reply = reply ≡ refused_fault
RepliesTo f (Err reason.Memory) reply = ⊥
RepliesTo f (Err reason.Down) reply = Unit {0}
RepliesTo f (Err why) reply = reply ≡ refusal (client_refused_as why)

-- where a client's entries stopped, of all events
abbrev pub stop_of : (n : ℕ) (entries : List ClientEntry) → (cut : Cut entries) → Stop (map (at_client n) entries)
stop_of n entries cut = record {
  done = map (at_client n) cut.done;
  next = AtClient n cut.next;
  rest = map (at_client n) cut.rest;
  is = ap (map (at_client n)) cut.is ∙ map-append (at_client n) cut.done (cut.next ∷ cut.rest);
}

module _ {D B : Type 0} (told : D → Told) (out : ℕ → Bool) (has : ℕ → Told) (cell : Cell) (n : ℕ) (entries : List ClientEntry) (said : Result Reply Refused) (f : B → Reply) (site : Site D) where
  abbrev EndsSo : Reply → Type 0
  EndsSo reply = (left : Cell) × EndsBy cell (map (at_client n) entries) (reply_to said) reply left × IsSite told out has left site

  whole : (reply : Reply) → FitsEvents cell (map (at_client n) entries) → reply ≡ reply_to said → IsSite told out has (after_all cell (map (at_client n) entries)) site → EndsSo reply
  whole reply fits same is = (after_all cell (map (at_client n) entries), inl (fits, same, refl), is)

  refused_so : (why : VenusRefused) (reply : Reply) → said ≡ Err (client_refused_as why) → reply ≡ refusal (client_refused_as why) → reply ≡ reply_to said
  refused_so why reply is same = same ∙ sym (ap reply_to is)

  -- what happened of a client's entries, and the cell that the site stands for
  pub ends_by : (result : Result B VenusRefused) (reply : Reply) → Leaves told out has cell n entries said (λ (a : Reply) (b : B). a ≡ f b) site result → RepliesTo f result reply → EndsSo reply
  ends_by (Ok b) reply ends is = whole reply ends.3 (is ∙ sym ends.2 ∙ sym (ap reply_to ends.1)) ends.4
  ends_by (Err reason.JournalFull) reply (inl ends) is = whole reply ends.1 (is ∙ sym (ap reply_to ends.0)) ends.2
  ends_by (Err reason.JournalFull) reply (inr ends) is = (after_all cell (map (at_client n) ends.0.done), inr (inl (stop_of n entries ends.0, ends.1, ends.2, is, refl)), ends.3)
  ends_by (Err reason.DiskFault) reply ends is = (_, inr (inr (stop_of n entries ends.0, ends.1, is, refl)), ends.2)
  ends_by (Err reason.Memory) reply ends is = absurd is
  ends_by (Err reason.Down) reply ends is = absurd ends
  ends_by (Err (reason.TooBig length)) reply ends is = whole reply ends.1 (refused_so (reason.TooBig length) reply ends.0 is) ends.2
  ends_by (Err reason.NotFound) reply ends is = whole reply ends.1 (refused_so reason.NotFound reply ends.0 is) ends.2
  ends_by (Err reason.NotDir) reply ends is = whole reply ends.1 (refused_so reason.NotDir reply ends.0 is) ends.2
  ends_by (Err reason.Exists) reply ends is = whole reply ends.1 (refused_so reason.Exists reply ends.0 is) ends.2
  ends_by (Err reason.IsDir) reply ends is = whole reply ends.1 (refused_so reason.IsDir reply ends.0 is) ends.2
  ends_by (Err reason.NotFile) reply ends is = whole reply ends.1 (refused_so reason.NotFile reply ends.0 is) ends.2
  ends_by (Err reason.NotEmpty) reply ends is = whole reply ends.1 (refused_so reason.NotEmpty reply ends.0 is) ends.2
  ends_by (Err reason.Loop) reply ends is = whole reply ends.1 (refused_so reason.Loop reply ends.0 is) ends.2
  ends_by (Err (reason.Need fid)) reply ends is = whole reply ends.1 (refused_so (reason.Need fid) reply ends.0 is) ends.2
  ends_by (Err reason.LogFull) reply ends is = whole reply ends.1 (refused_so reason.LogFull reply ends.0 is) ends.2
  ends_by (Err (reason.Frozen number home)) reply ends is = whole reply ends.1 (refused_so (reason.Frozen number home) reply ends.0 is) ends.2
  ends_by (Err reason.Nothing) reply ends is = whole reply ends.1 (refused_so reason.Nothing reply ends.0 is) ends.2
  ends_by (Err (reason.Young age window)) reply ends is = whole reply ends.1 (refused_so (reason.Young age window) reply ends.0 is) ends.2
  ends_by (Err (reason.NotFrozen number)) reply ends is = whole reply ends.1 (refused_so (reason.NotFrozen number) reply ends.0 is) ends.2
  ends_by (Err (reason.WrongNumber frozen number)) reply ends is = whole reply ends.1 (refused_so (reason.WrongNumber frozen number) reply ends.0 is) ends.2

-- ---- replies of clients

-- what the reply to a refusal of a client is
pub refused_replies : {B : Type 0} (f : B → Reply) (why : VenusRefused) (reply : Reply) → (why ≡ reason.Memory → ⊥) → (((why ≡ reason.Down) → ⊥) → ((why ≡ reason.DiskFault) → ⊥) → reply ≡ refusal (client_refused_as why)) → (why ≡ reason.DiskFault → reply ≡ refused_fault) → RepliesTo f (Err why) reply
refused_replies f reason.Down reply memory own fault = tt
refused_replies f (reason.TooBig length) reply memory own fault = own (λ e. cc) (λ e. cc)
refused_replies f reason.NotFound reply memory own fault = own (λ e. cc) (λ e. cc)
refused_replies f reason.NotDir reply memory own fault = own (λ e. cc) (λ e. cc)
refused_replies f reason.Exists reply memory own fault = own (λ e. cc) (λ e. cc)
refused_replies f reason.IsDir reply memory own fault = own (λ e. cc) (λ e. cc)
refused_replies f reason.NotFile reply memory own fault = own (λ e. cc) (λ e. cc)
refused_replies f reason.NotEmpty reply memory own fault = own (λ e. cc) (λ e. cc)
refused_replies f reason.Loop reply memory own fault = own (λ e. cc) (λ e. cc)
refused_replies f (reason.Need fid) reply memory own fault = own (λ e. cc) (λ e. cc)
refused_replies f reason.LogFull reply memory own fault = own (λ e. cc) (λ e. cc)
refused_replies f reason.JournalFull reply memory own fault = own (λ e. cc) (λ e. cc)
refused_replies f reason.DiskFault reply memory own fault = fault refl
refused_replies f (reason.Frozen number home) reply memory own fault = own (λ e. cc) (λ e. cc)
refused_replies f reason.Nothing reply memory own fault = own (λ e. cc) (λ e. cc)
refused_replies f (reason.Young age window) reply memory own fault = own (λ e. cc) (λ e. cc)
refused_replies f (reason.NotFrozen number) reply memory own fault = own (λ e. cc) (λ e. cc)
refused_replies f (reason.WrongNumber frozen number) reply memory own fault = own (λ e. cc) (λ e. cc)
refused_replies f reason.Memory reply memory own fault = absurd (memory refl)
