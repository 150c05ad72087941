-- The first numbers of some bytes, as they are read, and the test whether they are those of a certificate.
use Rattle.std.specs.Prelude.{ℕ, ◌^◌, ◌<◌, Bool, ◌&&◌, not, nat_eq, List, ◌++◌}
use Rattle.potential_cert.specs.TableBytes.{big_endian}
use Rattle.potential_cert.specs.Shapes.{is_outside}
use Rattle.window_cert.specs.declared.header.Header.{Header}
use Rattle.window_cert.specs.Certs.{Numbers}

abbrev pub raw_bytes : Header → List ℕ
raw_bytes h =
    big_endian 4 h.mark ++ (big_endian 2 h.version ++ (big_endian 2 h.vertices ++ (big_endian 2 h.slots
    ++ (big_endian 1 h.weights.load ++ (big_endian 1 h.weights.store ++ big_endian 4 h.bound)))))

-- each has as many bits as its bytes
pub record RawFits (h : Header) : Type 0 where
  pub mark : h.mark < 2 ^ 32
  pub version : h.version < 2 ^ 16
  pub vertices : h.vertices < 2 ^ 16
  pub slots : h.slots < 2 ^ 16
  pub load : h.weights.load < 2 ^ 8
  pub store : h.weights.store < 2 ^ 8
  pub bound : h.bound < 2 ^ 32

abbrev pub numbers_in : Header → Numbers
numbers_in h = record { vertices = h.vertices; slots = h.slots; load = h.weights.load; store = h.weights.store; bound = h.bound }

abbrev pub are_weights : ℕ → ℕ → Bool
are_weights load store = not (is_outside 16 load) && not (is_outside 16 store)

-- the mark is `RBPW` as a number, the version is 1, and the numbers are in their ranges
abbrev pub is_header : Header → Bool
is_header h =
    nat_eq h.mark 1380077655 && (nat_eq h.version 1 && (not (is_outside 256 h.vertices)
    && (not (is_outside 64 h.slots) && are_weights h.weights.load h.weights.store)))
