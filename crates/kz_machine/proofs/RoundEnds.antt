-- At a round's end.
use Rattle.std.proofs.Common.{◌≡◌, ◌<◌, ◌+◌, ◌^◌, ℕ, List, length, ap, sym, ◌∙◌, subst, arith}
use Rattle.std.proofs.lemmas.List.{get_or-map}
use Rattle.kz_model.specs.declared.bundle.Bundle.{Bundle}
use Rattle.kz_model.specs.declared.record.Plan.{Plan}
use Rattle.kz_laws.specs.Play.{ZonePlay, Play, no_play, zone_after_settling, play_after_round}
use Rattle.kz_book.specs.Book.{Book}
use Rattle.kz_cpu.specs.Cpu.{Cpu}
use Rattle.kz_machine.specs.Lookups.{book_at}
use Rattle.kz_machine.specs.Machine.{Machine}
use Rattle.kz_machine.specs.Settling.{AreSettled}
use Rattle.kz_machine.specs.Stands.{IsZoneAt, StandsForPlay, IsRoundsEnd}
use Rattle.kz_bundle.proofs.Zoned.{planned_is_valid}

module _ (m : Machine) (b : Bundle) (plan : Plan) (s : Play) (at : StandsForPlay b plan m s) where
  pub few_books : length m.books < 2 ^ 32
  few_books = let few = at.fit.few in let long = at.books_long in omega arith

  -- no zone has settled
  pub none_settled : AreSettled b plan s 0 m.cpus m.books
  none_settled =
      record {
        cpus_long = at.cpus_long;
        books_long = at.books_long;
        each = at.cpus;
        done = λ zone below in'. absurd (omega arith);
        rest = λ zone above in'. at.zones zone in';
      }

  module _ (end : IsRoundsEnd b plan s) where
    pub rounds_few : m.round + 1 < 2 ^ 32
    rounds_few = let within = end.within in let few = (planned_is_valid at.planned).rounds.1 in let round = at.round in omega arith

    -- all zones have
    pub round_keeps : (cpus : List Cpu) (books : List Book) (n : ℕ) → n ≡ length m.books → AreSettled b plan s n cpus books → StandsForPlay b plan (record m { cpus = cpus; books = books; round = m.round + 1 }) (play_after_round b s)
    round_keeps cpus books n all is =
        record {
          planned = at.planned;
          fit = at.fit;
          round = ap (λ n. n + 1) at.round;
          replies = at.replies;
          places = at.places;
          supply = at.supply;
          own_asks = at.own_asks;
          rooms = at.rooms;
          cpus_long = is.cpus_long;
          books_long = is.books_long;
          cpus = is.each;
          zones = λ zone in'.
              let there : zone < length s.zones = subst (λ n. zone < n) (sym end.sound.zones) in' in
              subst (λ (z : ZonePlay). IsZoneAt b plan cpus s.log zone (book_at books zone) z) (sym (get_or-map (zone_after_settling s.round b.cpus) s.zones zone no_play no_play there))
              (is.done zone (subst (λ n. zone < n) (sym (all ∙ at.books_long)) in') in');
          record_room = at.record_room;
        }
