-- The record of a machine is that of the play that it stands for.
use Rattle.std.proofs.Common.{◌≡◌, ◌<◌, ◌≤◌, ℕ, Bool, List, [], length, map, slice_index_or, ap, sym, ◌∙◌, subst, arith}
use Rattle.std.proofs.lemmas.List.{ext_get_or, get_or-map, length-map}
use Rattle.kz_model.specs.declared.bundle.Bundle.{Bundle}
use Rattle.kz_model.specs.declared.record.Plan.{Plan}
use Rattle.kz_model.specs.declared.record.Record.{Record}
use Rattle.kz_model.specs.declared.record.Room.{Room}
use Rattle.kz_model.specs.declared.record.Visit.{Visit}
use Rattle.kz_model.specs.declared.step.Reply.{Reply}
use Rattle.kz_model.specs.declared.supply.SupplyEntry.{SupplyEntry}
use Rattle.kz_laws.specs.Play.{ZonePlay, Play, no_play, zone_play, record_of}
use Rattle.kz_laws.specs.PlayedAt.{IsPlaySound}
use Rattle.kz_model.specs.Zone.State.{Chunk, Shared}
use Rattle.kz_supply.specs.Thin.{ThinSupply}
use Rattle.kz_book.specs.Book.{Book}
use Rattle.kz_machine.specs.RecordRoom.{HasRoomFor, mark_room_at}
use Rattle.kz_machine.specs.Lookups.{no_book, no_room, book_at}
use Rattle.kz_machine.specs.Machine.{Machine}
use Rattle.kz_machine.specs.Needs.{needed_of}
use Rattle.kz_machine.specs.Stands.{IsZoneAt, StandsForPlay}
use Rattle.kz_machine.proofs.Fit.{room_here, rooms_long}

-- two lists from which the same is made, place by place
map_alike : {X Y Z : Type 0} (f : X → Z) (g : Y → Z) (xs : List X) (ys : List Y) (d : X) (e : Y) (none : Z) → length xs ≡ length ys → ((k : ℕ) → k < length xs → f (slice_index_or xs k d) ≡ g (slice_index_or ys k e)) → map f xs ≡ map g ys
map_alike f g xs ys d e none long same =
    ext_get_or none (map f xs) (map g ys) (length-map xs f ∙ long ∙ sym (length-map ys g)) (λ k within.
    let in' : k < length xs = subst (λ n. k < n) (length-map xs f) within in
    get_or-map f xs k d none in' ∙ same k in' ∙ sym (get_or-map g ys k e none (subst (λ n. k < n) long in')))

abbrev pub made : List (List Reply) → List (List Visit) → List (List Bool) → List SupplyEntry → Record
made replies visits mapped supply = record { replies = replies; visits = visits; mapped = mapped; supply = supply }

module _ (m : Machine) (b : Bundle) (plan : Plan) (s : Play) (at : StandsForPlay b plan m s) (sound : IsPlaySound b plan s) where
  zone_at : (zone : ℕ) → zone < length m.books → IsZoneAt b plan m.cpus s.log zone (book_at m.books zone) (zone_play s zone)
  zone_at zone within = at.zones zone (subst (λ n. zone < n) at.books_long within)

  pub visits_fit : length m.books ≤ m.record_room.visits
  visits_fit = let fit = at.record_room.visits in let rooms = rooms_long b plan in let long = at.books_long in omega arith

  pub mapped_fit : length m.books ≤ m.record_room.mapped
  mapped_fit = let fit = at.record_room.mapped in let rooms = rooms_long b plan in let long = at.books_long in omega arith

  enough : (zone : ℕ) → zone < length m.books → (needed_of b plan zone).chunks ≤ (mark_room_at m.record_room.mark_rooms zone).chunks
  enough zone within =
      let lt : zone < length plan.zones = subst (λ n. zone < n) at.books_long within in
      subst (λ (room : Room). room.chunks ≤ (mark_room_at m.record_room.mark_rooms zone).chunks) (room_here b plan zone no_room lt) (at.record_room.mark_rooms zone (subst (λ n. zone < n) (sym (rooms_long b plan)) lt))

  pub mark_rooms_fit : HasRoomFor m.books m.record_room.mark_rooms
  mark_rooms_fit =
      record {
        long = at.record_room.mark_rooms_long ∙ rooms_long b plan ∙ sym at.books_long;
        chunks = λ zone within. let most = (zone_at zone within).most_chunks in let room = enough zone within in omega arith;
      }

  zones_long : length m.books ≡ length s.zones
  zones_long = at.books_long ∙ sym sound.zones

  pub record_is :
      made (map (λ r. r.items) m.replies) (map (λ book. book.visits) m.books) (map (λ book. map (λ chunk. chunk.mapped) book.zone.chunks) m.books) m.supply.counted.log ≡ record_of s
  record_is =
      let visits = map_alike (λ (book : Book). book.visits) (λ (z : ZonePlay). z.visits) m.books s.zones no_book no_play [] zones_long (λ zone within. (zone_at zone within).visits) in
      let mapped =
      map_alike (λ (book : Book). map (λ (chunk : Chunk). chunk.mapped) book.zone.chunks) (λ (z : ZonePlay). map (λ (chunk : Chunk). chunk.mapped) z.state.shared.chunks) m.books s.zones no_book no_play [] zones_long
      (λ zone within.
      let is = zone_at zone within in ap (λ (chunks : List Chunk). map (λ (chunk : Chunk). chunk.mapped) chunks) (sym (ap (λ (s : Shared). s.chunks) is.delayed.shared ∙ is.keeps.shows.chunks))) in
      ap (λ (replies : List (List Reply)). made replies (map (λ (book : Book). book.visits) m.books) (map (λ (book : Book). map (λ (chunk : Chunk). chunk.mapped) book.zone.chunks) m.books) m.supply.counted.log) at.replies
      ∙ ap (λ (visits : List (List Visit)). made s.replies visits (map (λ (book : Book). map (λ (chunk : Chunk). chunk.mapped) book.zone.chunks) m.books) m.supply.counted.log) visits
      ∙ ap (λ (mapped : List (List Bool)). made s.replies (map (λ (z : ZonePlay). z.visits) s.zones) mapped m.supply.counted.log) mapped
      ∙ ap (λ (log : List SupplyEntry). made s.replies (map (λ (z : ZonePlay). z.visits) s.zones) (map (λ (z : ZonePlay). map (λ (chunk : Chunk). chunk.mapped) z.state.shared.chunks) s.zones) log) (ap (λ (s : ThinSupply). s.counted.log) at.supply)
