-- A site at a later time, and one with another link.
use Rattle.std.proofs.Common.{◌≡◌, ℕ, ◌==◌, ◌&&◌, Bool, cond, sym, ap, ◌∙◌}
use Rattle.coda_disk.specs.Told.{Told}
use Rattle.coda_net.specs.Pool.{Pool}
use Rattle.coda_script.specs.declared.line.Strength.{Strength}
use Rattle.coda_cell.specs.Cells.{linked_in}
use Rattle.coda_cell.specs.State.{later, linked, Ticked, LinkSet}
use Rattle.coda_shelves.specs.Cells.{Cell, after}
use Rattle.coda_site.specs.Sites.{IsSite}
use Rattle.coda_site.specs.declared.site.Site.{Site}

module _ {D : Type 0} (told : D → Told) (out : ℕ → Bool) (has : ℕ → Told) (cell : Cell) (site : Site D) (is : IsSite told out has cell site) where
  pub ticked : (seconds clock : ℕ) → clock ≡ later site.clock seconds → IsSite told out has (after cell (Ticked seconds)) (record site { clock = clock })
  ticked seconds clock same = record {
    clock = ap (λ (c : ℕ). later c seconds) is.clock ∙ sym same;
    servers = is.servers;
    homes = is.homes;
    places = is.places;
    areas = is.areas;
    clients = is.clients;
    replicas = is.replicas;
    net = record { links_are = is.net.links_are; letters = is.net.letters; posted_are = is.net.posted_are };
  }

  pub link_set : (client server : ℕ) (strength : Strength) (net : Pool) → ((c s : ℕ) → linked_in net c s ≡ linked (linked_in site.net) client server strength c s) → net.letters ≡ site.net.letters → net.posted ≡ site.net.posted
      → IsSite told out has (after cell (LinkSet client server strength)) (record site { net = net })
  link_set client server strength net links letters posted = record {
    clock = is.clock;
    servers = is.servers;
    homes = is.homes;
    places = is.places;
    areas = is.areas;
    clients = is.clients;
    replicas = is.replicas;
    net = record {
      links_are = λ c s. ap (λ (l : Strength). cond ((c == client) && (s == server)) strength l) (is.net.links_are c s) ∙ sym (links c s);
      letters = record { letters = letters ∙ is.net.letters.letters; said = is.net.letters.said };
      posted_are = is.net.posted_are ∙ sym posted;
    };
  }
