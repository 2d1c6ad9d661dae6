-- Document 01, "Each address is worked in order, the first error counts": the rule for one address.
use Rattle.access.specs.declared.error.ParameterError.TheVariants.{NoSuchParameter, PastTheEnd, NoArray, NoDescription, NoText, BadAddress, ReadOnly, WrongType, WrongCount, OutsideLimits, NoRoom}
use Rattle.access.specs.declared.error.ParameterError.{ParameterError}
use Rattle.catalogue.specs.declared.Row.{Row}
use Rattle.std.specs.Prelude.{cond, not, ◌&&◌, ◌||◌, [], ◌∷◌, ℕ, ◌+◌, eqb, ltb, Option, Some, None, Result, Ok, Err}
use Rattle.blocks.specs.Block.{Block}
use Rattle.blocks.specs.declared.reader.Address.{Address}
use Rattle.catalogue.specs.Table.{find_of}

-- the number of each error, in a response: those of an address, then 0x01, 0x05, 0x18 and 0x02 of a change, and 0x15 of a read
abbrev pub error_number : ParameterError → ℕ
error_number NoSuchParameter = 0x00
error_number NoDescription = 0x09
error_number NoText = 0x0F
error_number BadAddress = 0x16
error_number NoArray = 0x04
error_number PastTheEnd = 0x03
error_number ReadOnly = 0x01
error_number WrongType = 0x05
error_number WrongCount = 0x18
error_number OutsideLimits = 0x02
error_number NoRoom = 0x15

-- "unless the PNU is found, 0x00"; "attribute 0x20 gives 0x09, 0x30 gives 0x0F, any other but 0x10 gives 0x16"; "simple with
-- sub-index not 0 or more than one element 0x04 (0 elements count as 1)"; "array with 0 elements 0x16"; "array whose sub-index
-- plus elements passes its length 0x03"
abbrev pub checked_in : Address → Option Row → Result (Row × ℕ) ParameterError
checked_in a None = Err NoSuchParameter
checked_in a (Some r) =
    cond (eqb a.attribute 0x20) (Err NoDescription)
    (cond (eqb a.attribute 0x30) (Err NoText)
    (cond (not (eqb a.attribute 0x10)) (Err BadAddress)
    (cond (r.simple && (not (eqb a.subindex 0) || ltb 1 a.elements)) (Err NoArray)
    (cond r.simple (Ok (r, 1))
    (cond (eqb a.elements 0) (Err BadAddress)
    (cond (ltb r.count (a.subindex + a.elements)) (Err PastTheEnd)
    (Ok (r, a.elements))))))))

-- the elements that an address names, from its sub-index on, or its error
unfoldable pub checked : Address → Result (Row × ℕ) ParameterError
checked a = checked_in a (find_of a.pnu)

-- "44 01 and one error word", and "40 00"
abbrev pub error_block : ParameterError → Block
error_block e = record { format = 0x44; values = error_number e ∷ [] }

abbrev pub empty_block : Block
empty_block = record { format = 0x40; values = [] }
