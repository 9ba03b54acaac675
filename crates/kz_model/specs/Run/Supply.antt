-- The supply of frames and pages, and where a block lies.
use Rattle.std.specs.Prelude.{ℕ, ◌+◌, ◌-◌, ◌*◌, ◌^◌, nat_lt, if◌then◌else◌, List, [], ◌∷◌, replicate, slice_index, slice_set}
use Rattle.kz_model.specs.declared.step.Block.{Block}
use Rattle.kz_model.specs.declared.supply.Ask.{Ask}
use Rattle.kz_model.specs.declared.supply.Ask.TheVariants.{Chunk, Frames, Back}
use Rattle.kz_model.specs.declared.supply.Answer.{Answer}
use Rattle.kz_model.specs.declared.supply.SupplyEntry.{SupplyEntry}
use Rattle.kz_model.specs.declared.supply.Answer.TheVariants.{Base, Given, NoSpace, NoFrames, Taken}

-- the free frames, and the cursor of each submap: the first page that was never handed out
pub record Stock : Type 0 where
  pub free : ℕ
  pub cursors : List ℕ

abbrev pub opening_stock : ℕ → Stock
opening_stock frames = record { free = frames; cursors = replicate 5 0 }

-- the pages of a submap that were never handed out
abbrev pub pages_left : ℕ → Stock → ℕ → ℕ
pages_left pages stock submap = pages - slice_index stock.cursors submap

abbrev pub answer_of : ℕ → Stock → Ask → Answer
answer_of pages stock (Chunk submap p) =
    if nat_lt (pages_left pages stock submap) p then NoSpace (pages_left pages stock submap)
    else if nat_lt stock.free p then NoFrames stock.free
    else Base (slice_index stock.cursors submap)
answer_of pages stock (Frames p) = if nat_lt stock.free p then NoFrames stock.free else Given
answer_of pages stock (Back p) = Taken

-- the stock after an ask was so answered
abbrev pub stock_after : Stock → Ask → Answer → Stock
stock_after stock (Chunk submap p) (Base page) =
    record { free = stock.free - p; cursors = slice_set stock.cursors submap (page + p) }
stock_after stock (Frames p) Given = record stock { free = stock.free - p }
stock_after stock (Back p) Taken = record stock { free = stock.free + p }
stock_after stock ask answer = stock

-- the answers to asks, in order, from a stock
abbrev pub answers_from : ℕ → Stock → List Ask → List Answer
answers_from pages stock [] = []
answers_from pages stock (ask ∷ asks) =
    answer_of pages stock ask ∷ answers_from pages (stock_after stock ask (answer_of pages stock ask)) asks

-- the supply's answers to these asks, from so many frames and pages per submap
abbrev pub supply_answers : ℕ → ℕ → List Ask → List Answer
supply_answers frames pages asks = answers_from pages (opening_stock frames) asks

-- the address of a block of a chunk that begins at this page of its submap
abbrev pub address : ℕ → ℕ → ℕ → Block → ℕ
address submap base element block = 2 ^ 40 * (submap + 1) + 4096 * base + block.index * element

-- ---- the pages of a log

-- the pages that an answer grants, and those that an ask gives back
abbrev pub pages_granted : Ask → Answer → ℕ
pages_granted (Chunk submap pages) (Base page) = pages
pages_granted (Frames pages) Given = pages
pages_granted ask answer = 0

abbrev pub pages_returned : Ask → Answer → ℕ
pages_returned (Back pages) Taken = pages
pages_returned ask answer = 0

abbrev pub granted_in : List SupplyEntry → ℕ
granted_in [] = 0
granted_in (entry ∷ log) = pages_granted entry.ask entry.answer + granted_in log

abbrev pub returned_in : List SupplyEntry → ℕ
returned_in [] = 0
returned_in (entry ∷ log) = pages_returned entry.ask entry.answer + returned_in log
