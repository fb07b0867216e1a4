-- A known text.
use Rattle.std.specs.Prelude.{ℕ, List, ◌++◌, codes}

-- the lines for the report of a node that is gone, one that moved, and one that is new
abbrev pub known_json : List ℕ
known_json =
    codes "{\"version\":1,\"what\":\"record\",\"mark\":\"only_in_a\",\"type\":\"PNO\","
    ++ codes "\"a\":{\"identifier\":\"N1\",\"line\":2},\"b\":null,\"parts\":[]}\n"
    ++ codes "{\"version\":1,\"what\":\"record\",\"mark\":\"changed\",\"type\":\"PNO\","
    ++ codes "\"a\":{\"identifier\":\"N2\",\"line\":6},\"b\":{\"identifier\":\"M1\",\"line\":4},"
    ++ codes "\"parts\":[\"points\"]}\n"
    ++ codes "{\"version\":1,\"what\":\"record\",\"mark\":\"only_in_b\",\"type\":\"PNO\","
    ++ codes "\"a\":null,\"b\":{\"identifier\":\"M2\",\"line\":8},\"parts\":[]}\n"
    ++ codes "{\"version\":1,\"what\":\"counts\",\"only_in_a\":1,\"only_in_b\":1,\"changed\":1}\n"
