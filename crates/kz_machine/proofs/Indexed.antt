-- A line of a CPU, where the CPU, the book, the room and the replies stand at their places in the machine.
use Rattle.std.proofs.Common.{◌≡◌, ◌<◌, ◌≤◌, ℕ, List, [], ◌∷◌, ◌++◌, length, slice_index_or, slice_set, ap, sym, ◌∙◌, subst, arith}
use Rattle.std.proofs.lemmas.List.{get_or_default, get_or-map, length-map}
use Rattle.kz_model.specs.declared.bundle.Bundle.{Bundle}
use Rattle.kz_model.specs.declared.record.Plan.{Plan}
use Rattle.kz_model.specs.declared.record.Room.{Room}
use Rattle.kz_model.specs.declared.record.ZoneParams.{ZoneParams}
use Rattle.kz_model.specs.declared.step.Reply.{Reply}
use Rattle.kz_model.specs.declared.step.Step.{Step}
use Rattle.kz_model.specs.Run.Journal.{params_of}
use Rattle.kz_laws.specs.Play.{Play, replies_so_far, effect_there, play_after_step}
use Rattle.kz_supply.specs.Exchange.{Exchange}
use Rattle.kz_supply.specs.Thin.{ThinSupply}
use Rattle.kz_book.specs.Book.{Book, History, KeepsHistory}
use Rattle.kz_cpu.specs.Cpu.{Cpu}
use Rattle.kz_cpu.specs.Caught.{IsCaughtUpWith}
use Rattle.kz_model.specs.Store.Replies.{RepliesSoFar}
use Rattle.kz_machine.specs.RecordRoom.{no_replies}
use Rattle.kz_machine.specs.Lookups.{no_cpu, no_book, cpu_at, book_at}
use Rattle.kz_machine.specs.Machine.{Machine, replies_at}
use Rattle.kz_machine.specs.Stands.{StandsForPlay, IsTurn}
use Rattle.kz_machine.specs.Steps.{parties, IsReady, IsStepDone}
use Rattle.kz_machine.proofs.Fit.{room_here, rooms_long}
use Rattle.kz_machine.proofs.Ready.{is_cpu, in_zones, ready_here}
use Rattle.kz_machine.proofs.Stepped.{step_keeps, reply_is}

module _ (m : Machine) (cpu zone : ℕ) (step : Step) (b : Bundle) (plan : Plan) (s : Play) (at : StandsForPlay b plan m s) (turn : IsTurn b plan s cpu zone step) where
  pub within_cpus : cpu < length m.cpus
  within_cpus = subst (λ n. cpu < n) (sym at.cpus_long) (is_cpu b plan m s cpu zone step at turn)

  pub within_books : zone < length m.books
  within_books = subst (λ n. zone < n) (sym at.books_long) (in_zones b plan m s cpu zone step at turn)

  pub within_rooms : zone < length m.rooms
  within_rooms = subst (λ n. zone < n) (sym (ap (λ (l : List Room). length l) at.rooms ∙ rooms_long b plan)) (in_zones b plan m s cpu zone step at turn)

  pub within_replies : cpu < length m.replies
  within_replies = subst (λ n. cpu < n) (sym (sym (length-map m.replies (λ (r : RepliesSoFar). r.items)) ∙ ap (λ (l : List (List Reply)). length l) at.replies ∙ turn.sound.cpus)) (is_cpu b plan m s cpu zone step at turn)

  module _ (c : Cpu) (book : Book) (room : Room) (is_c : c ≡ slice_index_or m.cpus cpu c) (is_book : book ≡ slice_index_or m.books zone book) (is_room : room ≡ slice_index_or m.rooms zone room) where
    cpu_is : cpu_at m.cpus cpu ≡ c
    cpu_is = get_or_default m.cpus cpu no_cpu c within_cpus ∙ sym is_c

    book_is : book_at m.books zone ≡ book
    book_is = get_or_default m.books zone no_book book within_books ∙ sym is_book

    params_are : params_of b plan zone ≡ room.params
    params_are =
        sym (ap (λ (r : Room). r.params)
        (is_room ∙ ap (λ (l : List Room). slice_index_or l zone room) at.rooms ∙ room_here b plan zone room (in_zones b plan m s cpu zone step at turn)))

    pub may_step : IsReady room.params (parties c book m.supply) step
    may_step =
        subst (λ (p : ZoneParams). IsReady p (parties c book m.supply) step) params_are
        (subst (λ (book : Book). IsReady (params_of b plan zone) (parties c book m.supply) step) book_is
        (subst (λ (c : Cpu). IsReady (params_of b plan zone) (parties c (book_at m.books zone) m.supply) step) cpu_is (ready_here b plan m s cpu zone step at turn)))

    module _ (d : Cpu) (shelf : Book) (supply : ThinSupply) (reply : Reply)
        (does : (j : History) → KeepsHistory book j → IsCaughtUpWith c room.params.zone j → (after : History) × (exchanges : List Exchange) × IsStepDone room.params m.round (parties c book m.supply) (parties d shelf supply) step reply j after exchanges) where
      abbrev there-in : zone < length plan.zones
      there-in = in_zones b plan m s cpu zone step at turn

      abbrev j : History
      j = (at.zones zone there-in).history

      abbrev Done : ZoneParams → Book → Cpu → Type 0
      Done p book c = (after : History) × (exchanges : List Exchange) × IsStepDone p m.round (parties c book m.supply) (parties d shelf supply) step reply j after exchanges

      done : Done (params_of b plan zone) (book_at m.books zone) (cpu_at m.cpus cpu)
      done =
          subst (λ (c : Cpu). Done (params_of b plan zone) (book_at m.books zone) c) (sym cpu_is)
          (subst (λ (book : Book). Done (params_of b plan zone) book c) (sym book_is)
          (subst (λ (p : ZoneParams). Done p book c) (sym params_are)
          (does j (subst (λ (book : Book). KeepsHistory book j) book_is (at.zones zone there-in).keeps)
          (subst (λ (p : ZoneParams). IsCaughtUpWith c p.zone j) params_are (subst (λ (c : Cpu). IsCaughtUpWith c zone j) cpu_is ((at.zones zone there-in).caught cpu (is_cpu b plan m s cpu zone step at turn)))))))

      module _ (said told : RepliesSoFar) (is_said : said ≡ slice_index_or m.replies cpu said) (items : told.items ≡ said.items ++ reply ∷ []) (more : said.room ≤ told.room) where
        said_is : replies_at m.replies cpu ≡ said
        said_is = get_or_default m.replies cpu no_replies said within_replies ∙ sym is_said

        items_are : told.items ≡ (replies_at m.replies cpu).items ++ reply ∷ []
        items_are = items ∙ ap (λ (r : RepliesSoFar). r.items ++ reply ∷ []) (sym said_is)

        room_more : (replies_at m.replies cpu).room ≤ told.room
        room_more = subst (λ (r : RepliesSoFar). r.room ≤ told.room) (sym said_is) more

        pub step_plays : StandsForPlay b plan (record m { cpus = slice_set m.cpus cpu d; books = slice_set m.books zone shelf; supply = supply; replies = slice_set m.replies cpu told }) (play_after_step b plan s cpu zone step)
        step_plays = step_keeps b plan m s cpu zone step at turn d shelf supply told reply done.0 done.1 done.2 items_are room_more

        pub step_replies : reply ≡ (effect_there b plan s cpu zone step).reply
        step_replies = reply_is b plan m s cpu zone step at turn d shelf supply told reply done.0 done.1 done.2 items_are room_more

  -- there is room for one more reply
  pub may_reply : (said : RepliesSoFar) → said ≡ slice_index_or m.replies cpu said → length said.items < said.room
  may_reply said is =
      let here : replies_at m.replies cpu ≡ said = get_or_default m.replies cpu no_replies said within_replies ∙ sym is in
      let items : said.items ≡ replies_so_far s cpu =
      ap (λ (r : RepliesSoFar). r.items) (sym here) ∙ sym (get_or-map (λ (r : RepliesSoFar). r.items) m.replies cpu no_replies [] within_replies) ∙ ap (λ (l : List (List Reply)). slice_index_or l cpu []) at.replies in
      let place = at.places cpu (is_cpu b plan m s cpu zone step at turn) in
      let same = ap (λ (r : RepliesSoFar). r.room) here in
      let some = turn.turn.some in
      omega (arith, ap (λ (l : List Reply). length l) items, place, same, some)
