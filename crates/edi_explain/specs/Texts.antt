-- The rules in words.
use Rattle.std.specs.Prelude.{◌≡◌, ◌++◌, ℕ, List, [], ◌∷◌, Option, find, nat_eq, option_map, codes}
use Rattle.edi_explain.specs.Rules.{IsTextIfAny, rules}
use Rattle.edi_explain.specs.declared.text.RuleText.{RuleText}

-- a rule in words: its number, where it is broken, why there is such a rule, what usually breaks it, and what to do
pub record RuleWords : Type 0 where
  pub rule : ℕ
  pub sentence : List ℕ
  pub reason : List ℕ
  pub cause : List ℕ
  pub remedy : List ℕ

-- the words of a text
abbrev pub words_of_text : RuleText → RuleWords
words_of_text text = record {
  rule = text.rule;
  sentence = text.sentence.now;
  reason = text.reason.now;
  cause = text.cause.now;
  remedy = text.remedy.now;
}

-- the words of the rule with this number, if it is among these
abbrev pub words_among : List RuleWords → ℕ → Option RuleWords
words_among words number = find (λ (w : RuleWords). nat_eq w.rule number) words

-- the name of the format, whose é has two bytes
abbrev pub edigeo : List ℕ
edigeo = codes "EDIG" ++ 195 ∷ 169 ∷ codes "O"

-- the rules of lines
abbrev pub line_texts : List RuleWords
line_texts =
    record {
      rule = 101;
      sentence = codes "a line that isn't skipped has no head in form";
      reason = codes "A zone begins with its code, nature, format, the length of its value and a colon; without them nothing says what the line holds.";
      cause = codes "The file was edited by hand, saved in another form or joined from pieces, or it is no " ++ edigeo ++ codes " file.";
      remedy = codes "Look whether it is the file as it was delivered, unpacked and not stored by an editor, and "
          ++ codes "fetch it again; if it says the same, tell the producer the line.";
    } ∷
    record {
      rule = 102;
      sentence = codes "fewer bytes follow the head than its length says";
      reason = codes "The head says how many bytes the value has; where fewer are there, part of the value is lost.";
      cause = codes "The line was cut, a value was changed by hand and its length wasn't, or the text was "
          ++ codes "converted, so that letters take other numbers of bytes.";
      remedy = codes "Take the file as it was delivered, or fetch it again; if it says the same, tell the producer "
          ++ codes "the line.";
    } ∷
    record {
      rule = 103;
      sentence = codes "a byte other than a space follows the value";
      reason = codes "The head says how many bytes the value has; what stands behind them would be lost without a word.";
      cause = codes "A value was made longer by hand and its length was not changed, or the character set was converted, or two lines were joined.";
      remedy = codes "Take the file as it was delivered, or fetch it again; if it says the same, tell the producer "
          ++ codes "the line.";
    } ∷
    record {
      rule = 104;
      sentence = codes "NEX with no zone or remark before it";
      reason = codes "A NEX line goes on with the value of the line before it; at the head of a file there is none.";
      cause = codes "The first lines of the file are missing.";
      remedy = codes "Fetch the file again; if it says the same, tell the producer that its first lines are "
          ++ codes "missing.";
    } ∷
    record {
      rule = 105;
      sentence = codes "the first zone isn't BOM";
      reason = codes "A file begins with BOM, so that a part of a file is not taken for the whole.";
      cause = codes "The first line of the file is missing, or other text stands in front of it.";
      remedy = codes "Look whether it is the file as it was delivered, and fetch it again; if it says the same, "
          ++ codes "tell the producer.";
    } ∷
    record {
      rule = 106;
      sentence = codes "there is no EOM";
      reason = codes "A file ends with EOM, so that a file that was cut is not taken for the whole.";
      cause = codes "The file was cut: a transfer stopped, or a disk was full.";
      remedy = codes "Fetch the file again; don't write EOM by hand, since something else may be missing too. If "
          ++ codes "it says the same, tell the producer.";
    } ∷
    record {
      rule = 107;
      sentence = codes "a zone after the first EOM";
      reason = codes "EOM is the end of the file; a zone behind it belongs to no file.";
      cause = codes "Two files were joined, or a zone was added at the end.";
      remedy = codes "Give each file by itself, as it was delivered; if it came so, tell the producer both lines.";
    } ∷
    record {
      rule = 108;
      sentence = codes "a BOM after a BOM; a CSE after a CSE or after an RTY";
      reason = codes "A file has one beginning and one character set, and the character set is known before the first record.";
      cause = codes "Two files were joined, or a header was copied into the records.";
      remedy = codes "Give each file by itself, as it was delivered; if it came so, tell the producer both lines.";
    } ∷
    record {
      rule = 109;
      sentence = codes "a zone other than BOM, CSE, EOM, RTY with no RTY before it";
      reason = codes "Each zone between the header and EOM belongs to a record, and RTY begins one.";
      cause = codes "The RTY of the first record is missing, or the header has a zone that this profile doesn't read.";
      remedy = codes "Fetch the file again; if it says the same, tell the producer the line.";
    } ∷
    record {
      rule = 110;
      sentence = codes "the RTY of record 10,000,000";
      reason = codes "A sheet has 9,999,999 records at most, so that every record has a number of its own that fits.";
      cause = codes "Many sheets were joined to one file.";
      remedy = codes "Give each sheet by itself, as it was delivered.";
    } ∷
    []

-- the rules of records
abbrev pub record_texts : List RuleWords
record_texts =
    record {
      rule = 201;
      sentence = codes "the type isn't one of the five";
      reason = codes "Only nodes, arcs, faces, objects and links make a plan.";
      cause = codes "A record of another file, such as one of the classes, stands in the sheet, or its type is misspelled.";
      remedy = codes "Look whether the file is the VEC file of the sheet; if it is, tell the producer the line and "
          ++ codes "the type.";
    } ∷
    record {
      rule = 202;
      sentence = codes "not exactly one RID in form";
      reason = codes "Links name a record by its identifier, in pointers that are parted by semicolons; so it needs one, and one that a pointer can hold.";
      cause = codes "RID is missing, stands twice, is empty, is too long or holds a semicolon.";
      remedy = codes "Tell the producer the line; a record has one RID of 1 to 255 bytes without a semicolon.";
    } ∷
    record {
      rule = 203;
      sentence = codes "not exactly one SCP that is a pointer";
      reason = codes "The class says what a record is; a record has one.";
      cause = codes "SCP is missing or stands twice, or its value has not just three semicolons.";
      remedy = codes "Tell the producer the line; a record has one SCP of the form lot;subset;type;identifier.";
    } ∷
    record {
      rule = 204;
      sentence = codes "an ATP is no pointer; an ATV with no open attribute; a second TEX in one";
      reason = codes "A value or a character set belongs to the attribute that stands before it, and an attribute's class is named by a pointer.";
      cause = codes "The zones ATP, TEX and ATV were put in another order, or ATP is missing or isn't of the form lot;subset;type;identifier.";
      remedy = codes "Tell the producer the line; an attribute is ATP, then TEX or nothing, then ATV.";
    } ∷
    record {
      rule = 205;
      sentence = codes "ATC, PTC or FTC repeated, not digits, or not the count";
      reason = codes "The counts of attributes, points and ends show that nothing was lost between them.";
      cause = codes "A point, an end or an attribute was added or removed by hand and its count was not changed, or lines are missing.";
      remedy = codes "Fetch the file again, since lines may be missing; if it says the same, tell the producer the "
          ++ codes "line of the count.";
    } ∷
    record {
      rule = 206;
      sentence = codes "a COR of a node or arc is no coordinate; a node without exactly one; an arc with fewer than two";
      reason = codes "A node is one position; an arc joins two or more.";
      cause = codes "A COR is missing, stands twice at a node, or isn't two or three numbers parted by semicolons; or a number has too many digits or a comma.";
      remedy = codes "Tell the producer the line; a position is x;y; with a point before the decimals, and a node "
          ++ codes "has one, an arc two or more.";
    } ∷
    record {
      rule = 207;
      sentence = codes "an FTP is no pointer; a link with fewer than two ends; SNS before any FTP, or twice for one";
      reason = codes "A link joins two records or more, which it names by pointers, and a direction belongs to the end before it.";
      cause = codes "An FTP is missing or isn't of the form lot;subset;type;identifier, or SNS stands before the first FTP or twice behind one.";
      remedy = codes "Tell the producer the line; a link has two ends or more, each with one SNS at most behind "
          ++ codes "it.";
    } ∷
    record {
      rule = 208;
      sentence = codes "an extra with format `P` and a value that isn't empty";
      reason = codes "A pointer that this profile doesn't know would be lost, and with it something that the sheet says.";
      cause = codes "The producer uses a zone of format P that isn't in the table of zones.";
      remedy = codes "Ask the producer what the zone says; a sheet with one that isn't empty can't be read.";
    } ∷
    []

-- the rules of references
abbrev pub reference_texts : List RuleWords
reference_texts =
    record {
      rule = 301;
      sentence = codes "type and identifier of an earlier record";
      reason = codes "Links name records by type and identifier; where two have the same, nobody can say which one is meant.";
      cause = codes "A record was copied and its identifier was not changed, or two sheets were joined.";
      remedy = codes "Give each sheet by itself, as it was delivered; if it came so, tell the producer both lines.";
    } ∷
    record {
      rule = 302;
      sentence = codes "SCP names no class";
      reason = codes "The class of a record is one of the classes that the SCD file defines.";
      cause = codes "The SCD file belongs to another delivery, or the class is misspelled.";
      remedy = codes "Use the SCD file that was delivered with the sheet; if it is the one, tell the producer the "
          ++ codes "line and the class.";
    } ∷
    record {
      rule = 303;
      sentence = codes "an ATP's type isn't ATT, or it names no class";
      reason = codes "The class of an attribute is of type ATT and is one of those that the SCD file defines.";
      cause = codes "The SCD file belongs to another delivery, or the class is misspelled.";
      remedy = codes "Use the SCD file that was delivered with the sheet; if it is the one, tell the producer the "
          ++ codes "line and the class.";
    } ∷
    record {
      rule = 304;
      sentence = codes "an end with another lot or subset than the first end of all links";
      reason = codes "All links of a sheet name records of one lot and one subset, those of the sheet itself.";
      cause = codes "Two sheets were joined, or a link names a record of another VEC file of the delivery.";
      remedy = codes "Give each sheet by itself, as it was delivered. A sheet is read alone: one whose links name "
          ++ codes "records of another VEC file of the delivery can't be read, so ask the producer for sheets "
          ++ codes "that are whole by themselves.";
    } ∷
    record {
      rule = 305;
      sentence = codes "an end names no node, arc, face or object";
      reason = codes "An end of a link is a node, an arc, a face or an object of the sheet.";
      cause = codes "The record was removed or renamed and its link stayed, the pointer is misspelled, or the record stands in another file.";
      remedy = codes "Look whether another VEC file of the delivery has the record: a sheet is read alone, so such "
          ++ codes "a link can't be read. If none has it, tell the producer the line and the name.";
    } ∷
    record {
      rule = 306;
      sentence = codes "a link of a kind that doesn't join one arc to one node (initial, final) or one face (left, right)";
      reason = codes "A link to an initial or a final node joins one arc and one node; a link to a left or a right face joins one arc and one face.";
      cause = codes "The link has the class of another relation, or an end too many, or names a record of another type.";
      remedy = codes "Check that the four codes of --kinds are those of the producer, and that the SCD file is the "
          ++ codes "one that was delivered with the sheet; if they are, tell the producer the line.";
    } ∷
    record {
      rule = 307;
      sentence = codes "a link of a kind whose arc has an earlier link of that kind";
      reason = codes "An arc has at most one initial node, one final node, one left face and one right face.";
      cause = codes "A link was copied, or an arc was split and the links of its parts were not parted.";
      remedy = codes "Tell the producer the lines of both links, and ask which of the two holds.";
    } ∷
    []

-- the rules of topology
abbrev pub topology_texts : List RuleWords
topology_texts =
    record {
      rule = 401;
      sentence = codes "the initial node isn't at the arc's first point";
      reason = codes "An arc begins where its initial node is.";
      cause = codes "The node or the arc was moved alone, the points of the arc were reversed, or initial and final were exchanged.";
      remedy = codes "Check that the codes of --kinds for initial and final aren't exchanged; if they aren't, tell "
          ++ codes "the producer the line of the arc.";
    } ∷
    record {
      rule = 402;
      sentence = codes "the final node isn't at the arc's last point";
      reason = codes "An arc ends where its final node is.";
      cause = codes "The node or the arc was moved alone, the points of the arc were reversed, or initial and final were exchanged.";
      remedy = codes "Check that the codes of --kinds for initial and final aren't exchanged; if they aren't, tell "
          ++ codes "the producer the line of the arc.";
    } ∷
    record {
      rule = 403;
      sentence = codes "a node with the position, class, attributes and extras of an earlier node";
      reason = codes "Two nodes at one position with the same class, attributes and extras are one node that was written twice.";
      cause = codes "Sheets were joined and their nodes were not merged, or a node was copied.";
      remedy = codes "Tell the producer both lines, and ask for a sheet in which the two nodes are one.";
    } ∷
    record {
      rule = 404;
      sentence = codes "an arc whose points equal their reverse";
      reason = codes "The points of an arc give it a direction; an arc that reads the same both ways has none.";
      cause = codes "The arc runs out and back over the same points, or all its points are one position.";
      remedy = codes "Tell the producer the line, and ask for a sheet without the arc, or with one that is cut "
          ++ codes "where it turns back.";
    } ∷
    record {
      rule = 405;
      sentence = codes "an arc with an earlier arc's points, in either direction";
      reason = codes "Two arcs with the same points are one line that was drawn twice.";
      cause = codes "A common boundary was drawn once for each side, or sheets were joined and their arcs were not merged.";
      remedy = codes "Tell the producer both lines, and ask for a sheet in which the two arcs are one.";
    } ∷
    record {
      rule = 406;
      sentence = codes "a face on no side of an arc";
      reason = codes "A face is what arcs bound; without one it has no place in the plan.";
      cause = codes "The links that put it left or right of its arcs are missing or have unusual codes, or it was left over when two parcels were joined.";
      remedy = codes "Where the schema has other codes for the links to faces, name them with --kinds; else tell "
          ++ codes "the producer the line of the face.";
    } ∷
    []

-- the rules of objects
abbrev pub object_texts : List RuleWords
object_texts =
    record {
      rule = 501;
      sentence = codes "an object with the class, attributes, extras and pieces of an earlier object";
      reason = codes "Two objects of which the sheet says the same are one object that was written twice.";
      cause = codes "An object was copied, or an object lost the links or attributes that set it apart from another.";
      remedy = codes "Tell the producer both lines, and ask which of the two objects holds, or what sets them "
          ++ codes "apart.";
    } ∷
    []

-- the rules of schemas
abbrev pub schema_texts : List RuleWords
schema_texts =
    record {
      rule = 601;
      sentence = codes "a record without exactly one RID in form";
      reason = codes "Classes and words are named by type and identifier.";
      cause = codes "RID is missing, stands twice, is empty, is too long or holds a semicolon.";
      remedy = codes "Tell the producer the line; a record has one RID of 1 to 255 bytes without a semicolon.";
    } ∷
    record {
      rule = 602;
      sentence = codes "type and identifier of an earlier record of the file";
      reason = codes "Classes and words are named by type and identifier; where two have the same, nobody can say which one is meant.";
      cause = codes "A record was copied, or two files were joined.";
      remedy = codes "Give each file by itself, as it was delivered; if it came so, tell the producer both lines.";
    } ∷
    record {
      rule = 603;
      sentence = codes "the first DIP of an SCD record is no pointer, or names no DIC record";
      reason = codes "The word of a class says whether its values are numbers; it stands in the DIC file.";
      cause = codes "The DIC file belongs to another delivery, or DIP is misspelled.";
      remedy = codes "Use the DIC file that was delivered with the SCD file; if it is the one, tell the producer "
          ++ codes "the line and the word.";
    } ∷
    record {
      rule = 604;
      sentence = codes "two classes of one kind, a class of a kind without one of its partner's kind, or a class "
          ++ codes "whose type holds `;` while its partner's holds none";
      reason = codes "A link of one of the four kinds is written with one class, and an arc that is turned needs the class of the other side.";
      cause = codes "The codes of --kinds are those of another producer, or the SCD file defines a class twice or lacks one of the four.";
      remedy = codes "Check the four codes against the KND values of the SCD file, and name them with --kinds; if "
          ++ codes "they are right, ask the producer for an SCD file with one class for each kind.";
    } ∷
    []

-- the rules of deliveries
abbrev pub delivery_texts : List RuleWords
delivery_texts =
    record {
      rule = 701;
      sentence = codes "the type is neither GTS nor GTL";
      reason = codes "A THF file has records of two types, GTS for the support and GTL for a lot; what another one "
          ++ codes "says of the delivery would be lost.";
      cause = codes "It is no THF file, but an SCD or a VEC that was given in its place, or two files were joined.";
      remedy = codes "Give the THF file of the delivery; where it is the one, fetch the delivery again, and tell the "
          ++ codes "producer if it says the same.";
    } ∷
    record {
      rule = 702;
      sentence = codes "a lot without exactly one LON";
      reason = codes "The names of a lot's files begin with the name of the lot; without just one, nobody can say "
          ++ codes "which files they are.";
      cause = codes "The program that wrote the THF file leaves LON out or repeats it, or lines of the file are "
          ++ codes "missing.";
      remedy = codes "Fetch the delivery again; if the THF file says the same, ask the producer for a right one. "
          ++ codes "Until then edicad hash answers the sheets, by the paths of their files.";
    } ∷
    record {
      rule = 703;
      sentence = codes "the LON of a lot is no part of a name";
      reason = codes "The name of a lot becomes a part of the names of files; with a point or a slash in it, these "
          ++ codes "could lead out of the folder.";
      cause = codes "The producer gives lots names with spaces, points or accents, or LON is empty or longer than 125 "
          ++ codes "bytes; or the file was made to lead a reader elsewhere.";
      remedy = codes "Ask the producer for a delivery whose lots are named by letters, digits, _ and -. Until then "
          ++ codes "edicad hash answers the sheets, by the paths of their files.";
    } ∷
    record {
      rule = 704;
      sentence = codes "a lot without exactly one SCN";
      reason = codes "SCN names the file of the classes, under which all sheets of the lot are read; a lot has one.";
      cause = codes "The lot has no SCD file of its own or has several, or lines of the THF file are missing.";
      remedy = codes "Fetch the delivery again; if the THF file says the same, ask the producer for one that names "
          ++ codes "one SCD file for each lot. Until then edicad hash answers the sheets, by the paths of their files.";
    } ∷
    record {
      rule = 705;
      sentence = codes "a lot without exactly one DIN";
      reason = codes "DIN names the dictionary, which says of each class whether its values are numbers; a lot has "
          ++ codes "one.";
      cause = codes "The lot has no DIC file of its own or has several, or lines of the THF file are missing.";
      remedy = codes "Fetch the delivery again; if the THF file says the same, ask the producer for one that names "
          ++ codes "one DIC file for each lot. Until then edicad hash answers the sheets, by the paths of their files.";
    } ∷
    record {
      rule = 706;
      sentence = codes "a lot without a GDN; GDC repeated, not digits, or not the count of GDN";
      reason = codes "A lot has sheets, and their count shows that none is missing from the list.";
      cause = codes "Lines of the THF file are missing, or sheets were added to a delivery or taken out of it and the "
          ++ codes "count was not changed.";
      remedy = codes "Fetch the delivery again; if the THF file says the same, ask the producer which sheets the lot "
          ++ codes "has. Until then edicad hash answers those that are there, by the paths of their files.";
    } ∷
    record {
      rule = 707;
      sentence = codes "more than one GNN, GON or QAN in a lot";
      reason = codes "A lot has at most one file of general data, one of the coordinate system and one of quality; "
          ++ codes "where there are two, nobody can say which one holds.";
      cause = codes "Two lots were written as one, or the program that wrote the THF file repeats these zones for "
          ++ codes "each sheet.";
      remedy = codes "Fetch the delivery again; if the THF file says the same, ask the producer which file holds. "
          ++ codes "Until then edicad hash answers the sheets, by the paths of their files.";
    } ∷
    record {
      rule = 708;
      sentence = codes "an SCN, DIN, GNN, GON, QAN or GDN of a lot is no part of a name";
      reason = codes "The own name of a file stands between the name of its lot and its extension; with a point or a "
          ++ codes "slash in it, the whole could lead to another file or out of the folder.";
      cause = codes "The THF file gives whole names with their extension, or paths, or names with spaces or accents, "
          ++ codes "or a value is empty or longer than 125 bytes; or the file was made to lead a reader elsewhere.";
      remedy = codes "Ask the producer for a THF file with own names of letters, digits, _ and -. Until then edicad "
          ++ codes "hash answers the sheets, by the paths of their files.";
    } ∷
    record {
      rule = 709;
      sentence = codes "a lot has the same name as an earlier lot";
      reason = codes "The names of a lot's files begin with the name of the lot, so lots need names of their own; "
          ++ codes "upper and lower case count as the same, since some disks don't distinguish them.";
      cause = codes "A lot was written twice, or the THF files of two deliveries were joined.";
      remedy = codes "Take each delivery by its own THF file, in a folder of its own; if the file came as it is, ask "
          ++ codes "the producer which of the two lots holds.";
    } ∷
    record {
      rule = 710;
      sentence = codes "two files of a lot have the same name, or one of its files has that of a file of an earlier "
          ++ codes "lot";
      reason = codes "Each file has one place in a delivery, so that each sheet is answered once; upper and lower "
          ++ codes "case count as the same, since some disks don't distinguish them.";
      cause = codes "A sheet stands in the list twice, or the names of two lots and their files come to one, as those "
          ++ codes "of lot A with file BC and of lot AB with file C.";
      remedy = codes "Fetch the delivery again; if the THF file says the same, ask the producer which lot the file "
          ++ codes "belongs to. Until then edicad hash answers the sheets, by the paths of their files.";
    } ∷
    record {
      rule = 711;
      sentence = codes "there is no lot";
      reason = codes "A delivery has a lot at least; without one nothing would be answered, as if all were well.";
      cause = codes "The THF file was cut behind its support, or it is another file.";
      remedy = codes "Look whether it is the THF file of the delivery, and fetch the delivery again.";
    } ∷
    []

-- all rules
abbrev pub rule_texts : List RuleWords
rule_texts =
    (((((line_texts ++ record_texts) ++ reference_texts) ++ topology_texts) ++ object_texts) ++ schema_texts)
    ++ delivery_texts

-- the words of this text are those of the rule with this number, or there is neither
abbrev pub SaysRule : ℕ → Option RuleText → Type 0
SaysRule number found = option_map words_of_text found ≡ words_among rule_texts number

-- the text of the rule with this number, or no rule has it
abbrev pub IsRuleText : ℕ → Option RuleText → Type 0
IsRuleText number found = IsTextIfAny rules number found × SaysRule number found
